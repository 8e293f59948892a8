-- `allocate` returns what the allocator below returns. Assumes `Logic`.
use Rattle.wiping.proofs.Steps.{ℕ, ◌+◌, [], ◌∷◌, refl, Bor, Fn, inst_fn, id⊢, flft, align, up, ‵, raw, ◌⊛◌, later, ◌$◌, !, by, keep, use1, use2, split, pick, learn, fsplit, await, stop, fld, addr, no_more, and_then, returns, enter, alloc_all, pass_all, free_all, look_at, get, through, sets, lands_as, unhide, layout, param, calls_at, Al, token, Answer-typed, Takes-gives}
use Rattle.wiping.proofs.Walks.{Over, args, inside, Answered, fm, sees, Taking, at_take, taken, asks, takes_met}
use Rattle.wiping.specs.contracts.below.Below as below
use Rattle.wiping.proofs.below.Below.allocate.Met as takes
use Rattle.wiping.specs.contracts.allocator.Wiping.{the_row}
use Rattle.wiping.specs.contracts.allocator.WipingAllocator.allocate.Key as key
use Rattle.wiping.proofs.allocator.WipingAllocator.allocate.Statement.{statement}
use Rattle.wiping.proofs.allocator.WipingAllocator.allocate.Code as code

-- the body meets the contract for each allocator
pub allocate_spec : {M : Type 1} → statement M
allocate_spec 𝓤 𝓛 𝓜 𝓡 wired Y L g d d' met drops =
    let Z : Al = record { row = Y; laws = L; g = g; d = d; drops = d' } in
    let e : Fn = inst_fn (args Z) code.function in
    let O : Over = record { heap = Z; row = the_row (param 0 Y); right = λ wiping. token Z wiping.inner.heap } in
    let K : Over = record { heap = Z; row = below.the_row (param 0 Y); right = λ below. token Z below.heap } in
    takes_met O 𝓛 𝓜 𝓡 (key.name (args Z)) e (code.unfolded 𝓤 𝓛.H 𝓜 𝓡 wired (Y, tt) d d') (λ x r.
    let h : Y.Denot = r.now.inner.heap in
    let κ = x.κs.0 in let q = x.qs.0 in let p : ℕ × ℕ = (r.ref_ptr.0, r.ref_ptr.1 + up (align (layout K.row)) 0) in
    let kept : Bor K.row.Denot = record { ref_ptr = p; now = r.now.inner } in
    unhide ! $ fsplit ! $ fsplit ! $ use1 𝓛 (‵ (sees K 𝓛 κ kept)) (id⊢ 𝓤 _) $ keep ! (0 ∷ 3 ∷ 4 ∷ []) $
    enter ! _ _ _ _ _ $ alloc_all ! (λ l. pass_all ! refl ((tt, tt), ((tt, record { fits = x.size_fits }), ((tt, record { fits = x.align_fits }), tt))) $
    sets ! (addr ! (through ! refl (fld ! refl (stop !)))) refl (tt, tt) $
    let y = at_take K 𝓛 (inside x) kept in
    use2 𝓛 (raw ((Taking K 𝓛).pre y)) (asks K 𝓛 x kept) $
    calls_at ! (fm 𝓛 𝓜 𝓡) (Taking K 𝓛) (takes.met 𝓤 𝓛 𝓜 𝓡 (code.calls-wiping::below::Below::allocate 𝓡.env wired) Y L g d d' met drops) y
    (and_then ! (get ! refl) (and_then ! (get ! refl) (and_then ! (get ! refl) (no_more !)))) (λ v.
    use1 𝓛 (later (Answered 𝓛 Z h x.ty v ⊛ ‵ (flft κ q))) (Takes-gives Z 𝓛 𝓜.mem 𝓡.returns κ q p h x.size x.align x.ty v) $ await ! tt $ split ! $ pick ! (λ c. learn ! (λ is.
    lands_as ! is refl (Answer-typed c.0 c.1.0 c.1.1) $ returns ! (look_at ! 0 refl) $ free_all ! refl $
    by ! (taken O 𝓛 x r c.0 c.1.0 c.1.1))))))
