-- `give_back` turns the zeros into room, and gives the block back to the allocator. Assumes `Logic`.
use Rattle.wiping.proofs.Steps.{◌≡◌, ℕ, ◌+◌, [], ◌∷◌, refl, Fn, vunit, inst_fn, id⊢, apply∗, flft, froom, align, up, sem, ‵, raw, later, given, ◌$◌, !, by, move, keep, use1, use2, group, learn, fsplit, await, stop, fld, addr, no_more, and_then, of_opd, unit_lit, returns, enter, alloc_all, pass_all, free_all, look_at, get, through, sets, lands_as, unhide, param, block_ptr, calls_at, Al, α, seen, token, Gives, at_gives, Gives-goes, Gives-Gives, zeros}
use Rattle.wiping.proofs.Walks.{Over, args, inside, clear, fm, given_back, gives_met}
use Rattle.wiping.specs.contracts.below.Below.{the_row}
use Rattle.wiping.specs.contracts.below.Below.give_back.Key as key
use Rattle.wiping.proofs.below.Below.give_back.Statement.{statement}
use Rattle.wiping.proofs.below.Below.give_back.Code as code

-- the body meets the contract for each allocator
pub give_back_spec : {M : Type 1} → statement M
give_back_spec 𝓤 𝓛 𝓜 𝓡 wired Y L g d d' met _ =
    let Z : Al = record { row = Y; laws = L; g = g; d = d; drops = d' } in
    let e : Fn = inst_fn (args Z) code.function in
    let O : Over = record { heap = Z; row = the_row (param 0 Y); right = λ below. token Z below.heap } in
    gives_met O 𝓛 (clear 𝓛) 𝓜 𝓡 (key.name (args Z)) e (code.unfolded 𝓤 𝓛.H 𝓜 𝓡 wired (Y, tt) d d') (λ x r b o.
    let h : Y.Denot = r.now.heap in
    let κ = x.κs.0 in let q = x.qs.0 in let p : ℕ × ℕ = (r.ref_ptr.0, r.ref_ptr.1 + up (align (α Z)) 0) in
    fsplit ! $ fsplit ! $ use2 𝓛 (‵ (froom x.ty b o)) (apply∗ 𝓤 (sem 𝓛 (zeros x.size (block_ptr b o))) (𝓛.H.room x.ty b o)) $
    move ! (2 ∷ []) $ unhide ! $ fsplit ! $ fsplit ! $ use1 𝓛 (‵ (seen Z κ p h)) (id⊢ 𝓤 _) $ keep ! (3 ∷ 4 ∷ 0 ∷ 5 ∷ 6 ∷ []) $
    enter ! _ _ _ _ _ $ alloc_all ! (λ l. pass_all ! refl ((tt, tt), ((tt, tt), ((tt, record { fits = x.size_fits }), ((tt, record { fits = x.align_fits }), tt)))) $
    sets ! (addr ! (through ! refl (fld ! refl (stop !)))) refl (tt, tt) $
    let y = at_gives Z 𝓛 𝓜.mem 𝓡.returns κ q p h b o x.size x.align x.ty in
    group ! 4 $ use1 𝓛 (raw ((Gives Z 𝓛 𝓜.mem 𝓡.returns).pre y)) (Gives-goes Z 𝓛 𝓜.mem 𝓡.returns κ q p h (inside x).lives b o x.size x.align x.ty x.layout.0 x.layout.1 x.size_fits x.align_fits) $
    calls_at ! (fm 𝓛 𝓜 𝓡) (Gives Z 𝓛 𝓜.mem 𝓡.returns) (met.deallocate d') y (and_then ! (get ! refl) (and_then ! (get ! refl) (and_then ! (get ! refl) (and_then ! (get ! refl) (no_more !))))) (λ v.
    use1 𝓛 (later (given (v ≡ vunit) (‵ (flft κ q)))) (Gives-Gives Z 𝓛 𝓜.mem 𝓡.returns κ q p h b o x.size x.align x.ty v) $ await ! tt $ learn ! (λ is.
    lands_as ! is refl (tt, tt) $ sets ! (of_opd ! (unit_lit !)) refl (tt, tt) $ returns ! (look_at ! 0 refl) $ free_all ! refl $
    by ! (given_back O 𝓛 (clear 𝓛) x r (block_ptr b o))))))
