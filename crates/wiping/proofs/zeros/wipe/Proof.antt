-- `wipe` writes 0 to each byte of the block, from the first on. Assumes `Logic`.
use Rattle.wiping.proofs.Steps.{◌≡◌, ℕ, ◌+◌, ◌-◌, ◌≤◌, ◌<◌, ◌^◌, List, [], ◌∷◌, refl, w64, arith, Ura, Ty, Val, vunit, vint, vptr, SProp, froom, fwand, WpFn, Logic, sem, fact, Item, Sq, ‵, raw, ◌⊛◌, at_ret, ◌$◌, ◌∵◌, !, qed, by, use1, use2, split, rewrite, fjoin, feq_i, stop, lit, unit_lit, of_opd, first, skips, branches, exec, returns, enter, alloc_all, pass_all, free_all, look_at, get, through, sets, env, yes, usize, uint_vals, uint_Tells, Ptr, block_ptr, ptr_val, rawptr_vals, rawptr_Tells, plain, heard, nothing, Stays, stay_dropped, walk_of, Goes-dropped, after, proved, leaves, HasSize, zeros, drop, id⊢, apply∗}
use Rattle.std.proofs.Common.{lit<, ltb→lt, nltb→le}
use mathlib.Core.WellFounded.InvImage
use lib.WfN.{lt-wf_rel}
use base.Fraction.{full_share}
use base.Logic.{wand}
use mir.Syntax.{w8}
use prog.Model.{Model}
use prog.Wp.{Env, Out, Wp, Tables, at_return, after_seq, after_block, after_turn}
use contract.Running.{Running, tables_of}
use types.Kit.{any_q, runs, prop, regoal}
use types.Run.{bin, init, assigns_last, blocks, jumps, loops, again, Below}
use types.ByLocal.{sets_last, holding, forget_but}
use denote.RawPtr.{RawPtr, room_for, in_a_block}
use denote.Triple.Entry.{on_entry}
use Rattle.wiping.proofs.Clearing.{byte, Half, ends, next, spread}
use Rattle.wiping.proofs.Walks.{T}
use Rattle.wiping.specs.contracts.zeros.wipe as F
use Rattle.wiping.proofs.zeros.wipe.Statement.{statement}
use Rattle.wiping.proofs.zeros.wipe.Code as code

-- no parameter is kept at the end
abbrev stayed : Stays F.ended.signature.params F.ended.kept
stayed = (stay_dropped (plain (λ _. RawPtr)) yes, (stay_dropped (plain (λ _. usize)) yes, tt))

module _ {M : Type 1} {𝓤 : Ura M} (𝓛 : Logic 𝓤) (𝓜 : Model 𝓤 𝓛.H) (𝓡 : Running 𝓤 𝓛.H 𝓜) (n : ℕ) (fits : n < 2 ^ 64) (τ : Ty) where
  open 𝓛 use {H}

  abbrev 𝓣 : Tables 𝓤 H
  𝓣 = tables_of 𝓤 H 𝓜 (T 𝓛 𝓜 𝓡)

  -- what a call binds, and the postcondition of a returned value
  abbrev bound : Ptr → (walk_of 𝓛 F.ended stayed (F.clauses 𝓛 𝓜.mem 𝓡.returns)).Ghost
  bound p = ((tt, tt, tt, (p, (n, tt)), (rawptr_vals p, (vint w64 n ∷ [], tt))), τ)

  abbrev Post : Ptr → Val → SProp 𝓤
  Post p = (walk_of 𝓛 F.ended stayed (F.clauses 𝓛 𝓜.mem 𝓡.returns)).post (bound p)

  -- how many bytes are 0, and the order in which more of them are
  abbrev Cleared : Type 0
  Cleared = (i : ℕ) × (i ≤ n)

  abbrev Nearer : Cleared → Cleared → Type 0
  Nearer t u = n - t.0 < n - u.0

  module _ (b o : ℕ) (l : ℕ → ℕ) where
    -- the locals
    abbrev En : Env 𝓤 H
    En = env (code.function).locals l

    -- what is owned before an iteration, and the way back from zeros to the block's room
    abbrev Now : Cleared → List (Item 𝓤)
    Now t = ‵ (Half 𝓛 b o n t.0) ∷ ‵ (fwand (zeros n (block_ptr b o)) (froom τ b o)) ∷ holding 𝓛 En ((1, vptr b o) ∷ (2, vint w64 n) ∷ (3, vint w64 t.0) ∷ [])

    -- what holds after an iteration
    abbrev Turned : Cleared → Out → SProp 𝓤
    Turned t = let End = at_return 𝓤 H En (Post (block_ptr b o)) in after_turn 𝓤 H (Below 𝓛 Nearer Now t) (after_block 𝓤 H (after_seq 𝓤 H (Wp 𝓤 H 𝓣.C 𝓣.Λ En (after 2 (code.function).body) End) End))

    -- an iteration clears one more byte, or leaves the loop
    turns : (t : Cleared) → Sq 𝓛 (Now t) (runs 𝓣.C 𝓣.Λ En code.Mir.turn-1 (any_q (Turned t)))
    unfolding after_turn
    turns t =
        let i : ℕ = t.0 in let le = t.1 in
        sets ! (bin ! (get ! refl) (get ! refl) tt) refl (tt, tt) $ first ! $ branches ! (get ! refl)
        (λ less. let h : i < n = ltb→lt i n less in let fi : i + 1 < 2 ^ 64 = omega arith in
        skips ! $ exec ! 𝓣.C 𝓣.Λ En (after 2 code.Mir.turn-1) (any_q (Turned t)) $
        first ! $ blocks ! $ sets ! (bin ! (get ! refl) (get ! refl) tt) refl (tt, tt) $
        use1 𝓛 (‵ (froom byte b (i + o)) ⊛ raw (wand 𝓤 (H.at full_share byte b (i + o) (vint w8 0)) (sem 𝓛 (Half 𝓛 b o n (i + 1))))) (next 𝓛 b o n i h) $ split ! $
        assigns_last ! (of_opd ! (lit ! tt)) (through ! refl (stop !)) (init ! 0 refl (tt, record { fits = lit< tt })) $
        exec ! 𝓣.C 𝓣.Λ En (after 3 code.Mir.turn-1) (any_q (Turned t)) $ sets_last ! (bin ! (get ! refl) (lit ! tt) (record { fits = fi })) refl (tt, record { fits = fi }) $
        use2 𝓛 (‵ (Half 𝓛 b o n (i + 1))) (apply∗ 𝓤 (H.at full_share byte b (i + o) (vint w8 0)) (sem 𝓛 (Half 𝓛 b o n (i + 1)))) $
        forget_but ! En (1 ∷ 2 ∷ 3 ∷ []) refl $ again ! Nearer Now t (i + 1, omega arith) (omega arith))
        (λ over. let ge = nltb→le i n over in let all : i ≡ n = omega arith in
        jumps ! $ exec ! 𝓣.C 𝓣.Λ En (after 2 (code.function).body) (at_ret En (Post (block_ptr b o))) $
        rewrite ! 0 (λ (k : ℕ). ‵ (Half 𝓛 b o n k)) all refl $ use1 𝓛 (‵ (zeros n (block_ptr b o))) (ends 𝓛 b o n) $
        sets ! (of_opd ! (unit_lit !)) refl (tt, tt) $ returns ! (look_at ! 0 refl) $ free_all ! refl $
        fjoin ! $ feq_i ! (List Val) (vunit ∷ []) (vunit ∷ []) refl $ nothing ! $ nothing ! $ fjoin ! $ nothing ! $ fjoin ! $ nothing ! $
        by ! (leaves 𝓛 F.ended stayed (F.clauses 𝓛 𝓜.mem 𝓡.returns) (bound (block_ptr b o)) vunit tt (tt, (tt, tt)) (tt, (tt, tt))))

-- the body meets the contract
pub wipe_spec : {M : Type 1} → statement M
unfolding tables_of
wipe_spec 𝓤 𝓛 𝓜 𝓡 wired =
    proved 𝓛 F.ended stayed (F.clauses 𝓛 𝓜.mem 𝓡.returns) 𝓜 𝓡 (Goes-dropped 𝓛 0 (plain (λ _. RawPtr)) yes (λ κs x f. refl), (Goes-dropped 𝓛 0 (plain (λ _. usize)) yes (λ κs x f. refl), tt))
    F.Key.name code.function (code.unfolded 𝓤 𝓛.H 𝓜 𝓡 wired) (λ κs. (rawptr_vals, (uint_vals w64, tt))) (λ κs. (rawptr_Tells, (uint_Tells w64, tt))) (λ κs qs bounds a τ are.
    let n : ℕ = a.1.0 in let fits = are.1.0.1 in
    qed 𝓛 (raw (on_entry 𝓛 F.signature κs qs a (bound 𝓛 𝓜 𝓡 n fits τ a.0).0.4) ∷ (raw (fact 𝓤 (HasSize τ n)) ⊛ ‵ (room_for τ a.0)) ∷ []) ∵ drop ! $ split ! $ heard ! (HasSize τ n) (λ e.
    in_a_block ! a.0 (room_for τ) (id⊢ 𝓤 _) (λ b o is.
    regoal ! (λ (p : Ptr). prop (WpFn 𝓤 𝓛.H (T 𝓛 𝓜 𝓡).C (T 𝓛 𝓜 𝓡).Λ code.function (ptr_val p ∷ vint w64 n ∷ []) (Post 𝓛 𝓜 𝓡 n fits τ p))) is refl $
    use1 𝓛 (‵ (Half 𝓛 b o n 0) ⊛ ‵ (fwand (zeros n (block_ptr b o)) (froom τ b o))) (spread 𝓛 b o τ n e) $ split ! $
    enter ! _ _ _ _ _ $ alloc_all ! (λ l. pass_all ! refl ((tt, tt), ((tt, record { fits = fits }), tt)) $
    sets ! (of_opd ! (lit ! tt)) refl (tt, record { fits = lit< tt }) $ first ! $ blocks ! $
    loops ! (𝓣 𝓛 𝓜 𝓡 n fits τ) (Nearer 𝓛 𝓜 𝓡 n fits τ) (InvImage.wf (λ (t : Cleared 𝓛 𝓜 𝓡 n fits τ). n - t.0) lt-wf_rel.wf) (Now 𝓛 𝓜 𝓡 n fits τ b o l) (turns 𝓛 𝓜 𝓡 n fits τ b o l) (0, omega arith)))))
