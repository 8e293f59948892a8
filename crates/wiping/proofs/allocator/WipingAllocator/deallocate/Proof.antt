-- `deallocate` clears the block, and gives it back to the allocator below. Assumes `Logic`.
use Rattle.wiping.proofs.Steps.{◌≡◌, ℕ, ◌+◌, ◌^◌, List, [], ◌∷◌, refl, ap, w64, Bor, Fn, Val, vunit, vint, vptr, inst_fn, emp, id⊢, ftrue, fsep, flft, align, up, fact, fact_i, ‵, raw, ◌⊛◌, some, later, given, ◌$◌, !, by, drop, keep, move, use0, use1, split, join, group, learn, pick, fsplit, fjoin, feq_i, feq_l, flt_i, await, stop, fld, addr, no_more, and_then, of_opd, unit_lit, returns, enter, alloc_all, pass_all, free_all, look_at, get, through, sets, lands_as, unit, unhide, layout, param, block_ptr, nothing, only, calls_at, triple_of, Al, token, Gives-Gives, HasSize, cleared}
use Rattle.wiping.proofs.Walks.{Over, args, inside, room, clear, fm, sees, Giving, at_give, given_back, hands, gives_met}
use Rattle.wiping.specs.contracts.zeros.wipe as wipe
use Rattle.wiping.proofs.zeros.wipe.Met as wipes
use Rattle.wiping.specs.contracts.below.Below as below
use Rattle.wiping.proofs.below.Below.give_back.Met as gives
use Rattle.wiping.specs.contracts.allocator.Wiping.{the_row}
use Rattle.wiping.specs.contracts.allocator.WipingAllocator.deallocate.Key as key
use Rattle.wiping.proofs.allocator.WipingAllocator.deallocate.Statement.{statement}
use Rattle.wiping.proofs.allocator.WipingAllocator.deallocate.Code as code

-- the body meets the contract for each allocator
pub deallocate_spec : {M : Type 1} → statement M
deallocate_spec 𝓤 𝓛 𝓜 𝓡 wired Y L g d d' met drops =
    let Z : Al = record { row = Y; laws = L; g = g; d = d; drops = d' } in
    let e : Fn = inst_fn (args Z) code.function in
    let O : Over = record { heap = Z; row = the_row (param 0 Y); right = λ wiping. token Z wiping.inner.heap } in
    let K : Over = record { heap = Z; row = below.the_row (param 0 Y); right = λ below. token Z below.heap } in
    gives_met O 𝓛 (room 𝓛) 𝓜 𝓡 (key.name (args Z)) e (code.unfolded 𝓤 𝓛.H 𝓜 𝓡 wired (Y, tt) d d') (λ x r b o.
    let h : Y.Denot = r.now.inner.heap in let n = x.size in
    let κ = x.κs.0 in let q = x.qs.0 in let p : ℕ × ℕ = (r.ref_ptr.0, r.ref_ptr.1 + up (align (layout K.row)) 0) in
    let kept : Bor K.row.Denot = record { ref_ptr = p; now = r.now.inner } in
    fsplit ! $ move ! (2 ∷ []) $ unhide ! $ fsplit ! $ fsplit ! $ use1 𝓛 (‵ (sees K 𝓛 κ kept)) (id⊢ 𝓤 _) $ keep ! (3 ∷ 4 ∷ 0 ∷ 5 ∷ 6 ∷ []) $
    -- [the room; the right to free it; the allocator below; the tokens]
    enter ! _ _ _ _ _ $ alloc_all ! (λ l. pass_all ! refl ((tt, tt), ((tt, tt), ((tt, record { fits = x.size_fits }), ((tt, record { fits = x.align_fits }), tt)))) $
    let C = triple_of 𝓛 wipe.signature (wipe.spec 𝓛 𝓜.mem 𝓡.returns) in
    let c : C.Ghost = ((tt, tt, tt, (block_ptr b o, (n, tt)), (vptr b o ∷ [], (vint w64 n ∷ [], tt))), x.ty) in
    use0 𝓛 (raw (fact 𝓤 (HasSize x.ty n))) (fact_i 𝓤 (HasSize x.ty n) (emp 𝓤) x.layout.0) $ join ! $
    nothing ! $ flt_i ! n (2 ^ 64) x.size_fits $ feq_i ! (List Val) (vint w64 n ∷ []) (vint w64 n ∷ []) refl $ fjoin ! $ fjoin ! $
    feq_i ! (List Val) (vptr b o ∷ []) (vptr b o ∷ []) refl $ fjoin ! $ nothing ! $ join ! $ join ! $ use1 𝓛 (raw (C.pre c)) (id⊢ 𝓤 _) $
    calls_at ! (fm 𝓛 𝓜 𝓡) C (wipes.met 𝓤 𝓛 𝓜 𝓡 (code.calls-wiping::zeros::wipe 𝓡.env wired)) c (and_then ! (get ! refl) (and_then ! (get ! refl) (no_more !))) (λ u.
    use1 𝓛 (later (some (λ (t : Unit {0}). (‵ ftrue ⊛ ‵ (unit.own_val t (u ∷ []))) ⊛ some (λ (ws : Unit {0} × (Unit {0} × Unit {0})). ‵ (fsep ftrue (fsep ftrue ftrue)) ⊛ ‵ (cleared x.ty n (block_ptr b o))))))
    (id⊢ 𝓤 _) $ await ! tt $ pick ! (λ t. split ! $ split ! $ drop ! $ feq_l ! (λ eu. lands_as ! (ap only eu) refl (tt, tt) $ pick ! (λ ws. split ! $ drop ! $
    sets ! (addr ! (through ! refl (fld ! refl (stop !)))) refl (tt, tt) $
    let G = Giving K 𝓛 (clear 𝓛) in let y = at_give K 𝓛 (clear 𝓛) (inside x) kept (block_ptr b o) in
    fjoin ! $ group ! 3 $ use1 𝓛 (raw (G.pre y)) (hands K 𝓛 (clear 𝓛) x kept b o) $
    calls_at ! (fm 𝓛 𝓜 𝓡) G (gives.met 𝓤 𝓛 𝓜 𝓡 (code.calls-wiping::below::Below::give_back 𝓡.env wired) Y L g d d' met drops) y
    (and_then ! (get ! refl) (and_then ! (get ! refl) (and_then ! (get ! refl) (and_then ! (get ! refl) (no_more !))))) (λ v.
    use1 𝓛 (later (given (v ≡ vunit) (‵ (flft κ q)))) (Gives-Gives Z 𝓛 𝓜.mem 𝓡.returns κ q p h b o n x.align x.ty v) $ await ! tt $ learn ! (λ is.
    lands_as ! is refl (tt, tt) $ sets ! (of_opd ! (unit_lit !)) refl (tt, tt) $ returns ! (look_at ! 0 refl) $ free_all ! refl $
    by ! (given_back O 𝓛 (room 𝓛) x r (block_ptr b o))))))))))
