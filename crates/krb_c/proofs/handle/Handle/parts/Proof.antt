-- `parts` tests the pointer: it is null if the handle is empty, else that of a block of the heap, which may be compared with null.
use Rattle.krb_c.proofs.Cited.{T, lit<, Option, Some, None, Ura, Val, vnull, vstruct, vcons, vnil, of_list, has_ty, WT, SProp, ent, emp, id⊢, guard_i, ftrue, fsep, Memory, Routine, WpFn, Tables, Logic, sem, Fun, fact_use, tables, tables_of, WpFn-mono, whole, sub, agg, stop, fld, lit, bin, no_more, and_then, of_opd, first, branches, exec, returns, enter, alloc_all, pass_all, free_all, look_at, get, get_in, sets, sets_last, env, yes, RattleType, layout, type_at, Ptr, block_ptr, ptr_val, Testable, tests_null, nothing, triple_of, entered, says, Stays, stay_dropped, walk_of, ends_at, Goes-dropped, walk_Meets, token, handle_tells, D, B, τ, word, box_typed, box_out, box_in, Global, List, [], ◌∷◌, ◌++◌, ◌≡◌, refl, sym, subst}
use mir.Raw.{raw as bare}
use types.Kit.{Item, ‵, raw, given, learn, at_ret, ◌⊛◌, ◌$◌, ◌∵◌, !, qed, by, move, drop, use0, use1, join, split, fsplit, fjoin, fpick, feq_l, suffices, done}
use types.Match.{live}
use Rattle.std.proofs.VecSteps.Shapes.{after}
use Rattle.std.proofs.option.Made.{Some-of, none_of}
use Rattle.std.proofs.GlobalToken.{dealloc_token-Testable}
use Rattle.std_alloc.proofs.ResultValues.{and_tt}
use Rattle.krb_c.proofs.AsBox.{E, FromParts, FromHandle as From}
use Rattle.krb_c.specs.contracts.held.Held.{the_row}
use Rattle.krb_c.specs.contracts.handle.Handle.parts as F
use Rattle.krb_c.specs.contracts.handle.Handle.parts.Key.{name as #self}
use Rattle.krb_c.proofs.handle.Handle.parts.Statement as stated
use Rattle.krb_c.proofs.handle.Handle.parts.Code as code

abbrev stayed : Stays (F.ended).signature.params (F.ended).kept
stayed = (stay_dropped From yes, tt)

abbrev Boxed : RattleType
Boxed = FromParts.row tt

module _ {M : Type 1} {𝓤 : Ura M} (𝓛 : Logic 𝓤) (at_mem : Memory → SProp 𝓤) (run : Routine → Fun 𝓤) (𝓣 : Tables 𝓤 𝓛.H) where
  open 𝓛 use {H}

  abbrev Bound : Type 0
  Bound = (walk_of 𝓛 F.ended stayed (F.clauses 𝓛 at_mem run)).Ghost

  abbrev bound : Ptr → Global → Option the_row.Denot → List Val → Bound
  bound p a h vs = ((tt, tt, tt, (record { ptr = p; alloc = a; held = h }, tt), (vs, tt)), tt)

  abbrev Walks : Bound → Type 1
  Walks z = ent 𝓤 ((walk_of 𝓛 F.ended stayed (F.clauses 𝓛 at_mem run)).pre z) (WpFn 𝓤 H 𝓣.C 𝓣.Λ code.function (z.0.4.0 ++ []) ((walk_of 𝓛 F.ended stayed (F.clauses 𝓛 at_mem run)).post z))

  walk : (p : Ptr) (a : Global) (h : Option the_row.Denot) (vs : List Val) → Walks (bound p a h vs)
  walk p a None vs =
      let z = bound p a None vs in
      let Post = (walk_of 𝓛 F.ended stayed (F.clauses 𝓛 at_mem run)).post z in
      let To = type_at (F.signature).result tt in
      qed 𝓛 ((‵ ftrue ⊛ ‵ (fsep ((From.row tt).own_val (record { ptr = p; alloc = a; held = None }) vs) ftrue)) ∷ raw (emp 𝓤) ∷ []) ∵ split ! $ drop ! $ fsplit ! $ fsplit ! $
      fpick ! (λ vss. fsplit ! $ feq_l ! (λ ev. fsplit ! $ feq_l ! (λ ep. fsplit ! $ handle_tells E.al ! a vss.1.0 (λ hv ea fa.
      -- [the handle of the heap; true; the pointer is null; true; nothing]
      move ! (2 ∷ []) $ feq_l ! (λ en. drop ! $ drop ! $ drop ! $ drop ! $
      let w : Val = vstruct (vcons vnull (vcons hv vnil)) in
      let ws : vs ≡ w ∷ [] = subst (λ (q : Ptr). vs ≡ vstruct (of_list (ptr_val q ∷ hv ∷ [])) ∷ []) en
      (subst (λ (us : List Val). vs ≡ vstruct (of_list (ptr_val p ∷ (us ++ []))) ∷ []) ea (subst (λ (ps : List Val). vs ≡ vstruct (of_list (ps ++ (vss.1.0 ++ []))) ∷ []) ep ev)) in
      by ! (subst (λ (us : List Val). ent 𝓤 (emp 𝓤) (WpFn 𝓤 H 𝓣.C 𝓣.Λ code.function (us ++ []) Post)) (sym ws)
      (qed 𝓛 [] ∵ enter ! 𝓣.C 𝓣.Λ code.function (w ∷ []) Post $ alloc_all ! (λ l. pass_all ! refl ((and_tt _ fa.0, (record { fits = lit< tt }, (fa.1, tt))), tt) $
      sets ! (of_opd ! (get_in ! (fld ! refl (stop !)) (sub ! 0 refl (whole !)))) refl (tt, record { fits = lit< tt }) $ sets ! (of_opd ! (get_in ! (fld ! refl (stop !)) (sub ! 1 refl (whole !)))) refl fa $
      sets ! (bin ! (get ! refl) (lit ! tt) tt) refl (tt, tt) $ first ! $ branches ! (get ! refl)
      (λ _. sets_last ! (agg ! (and_then ! (lit ! tt) (no_more !))) refl (tt, (record { fits = lit< tt }, tt)) $ exec ! 𝓣.C 𝓣.Λ (env (code.function).locals l) (after 4 (code.function).body) (at_ret (env (code.function).locals l) Post) $
      sets ! (of_opd ! (get ! refl)) refl (tt, (record { fits = lit< tt }, tt)) $ returns ! (look_at ! 0 refl) $ free_all ! refl $ use0 𝓛 (‵ (To.own_val None (live 0 vnil ∷ []))) (none_of 𝓛 Boxed) $
      suffices ! _ (ends_at 𝓛 F.ended stayed (F.clauses 𝓛 at_mem run) z (live 0 vnil) None (tt, tt) (tt, tt)) $ says ! refl $
      nothing ! $ nothing ! $ fjoin ! $ join ! $ nothing ! $ join ! $ done !)
      (λ wrong. absurd wrong)))))))))
  walk p a (Some x) vs =
      let z = bound p a (Some x) vs in
      let Post = (walk_of 𝓛 F.ended stayed (F.clauses 𝓛 at_mem run)).post z in
      let v : D E = record { ptr = p; alloc = a; value = x } in
      let To = type_at (F.signature).result tt in
      let made : Boxed.Denot = record { ptr = p; alloc = a; value = x } in
      qed 𝓛 ((‵ ftrue ⊛ ‵ (fsep ((B E).own_val v vs) ftrue)) ∷ raw (emp 𝓤) ∷ []) ∵ split ! $ drop ! $ fsplit ! $
      box_out E ! v vs (λ b o hv e ws fa. move ! (1 ∷ []) $
      let q : Ptr = block_ptr b o in let Right = token E.al a (bare (τ E)) q in
      use1 𝓛 (given (Testable q) (‵ Right)) (fact_use 𝓤 (Testable q) (dealloc_token-Testable 𝓛 a (bare (τ E)) q) (guard_i 𝓤 (Testable q) (sem 𝓛 Right))) $ learn ! (λ may. move ! (1 ∷ []) $
      box_in E ! v b o x e refl $ use1 𝓛 (‵ (Boxed.own_val made (word E hv b o ∷ []))) (id⊢ 𝓤 _) $ move ! (1 ∷ 2 ∷ []) $ drop ! $ drop ! $
      let w = word E hv b o in
      let Γ : List (Item 𝓤) = ‵ (Boxed.own_val made (w ∷ [])) ∷ [] in
      let typed = box_typed E hv b o fa in
      let some : Val = live 1 (vcons w vnil) in
      let good : T (has_ty (layout To) some) × WT some = (and_tt _ typed.0, (record { fits = lit< tt }, (typed.1, tt))) in
      by ! (subst (λ (us : List Val). ent 𝓤 (types.Kit.⋆ 𝓛 Γ) (WpFn 𝓤 H 𝓣.C 𝓣.Λ code.function (us ++ []) Post)) (sym ws)
      (qed 𝓛 Γ ∵ enter ! 𝓣.C 𝓣.Λ code.function (w ∷ []) Post $ alloc_all ! (λ l. pass_all ! refl (typed, tt) $
      sets ! (of_opd ! (get_in ! (fld ! refl (stop !)) (sub ! 0 refl (whole !)))) refl (tt, tt) $ sets ! (of_opd ! (get_in ! (fld ! refl (stop !)) (sub ! 1 refl (whole !)))) refl fa $
      sets ! (bin ! (get ! refl) (lit ! tt) (tests_null q may)) refl (tt, tt) $ first ! $ branches ! (get ! refl) (λ wrong. absurd wrong)
      (λ _. sets ! (of_opd ! (get ! refl)) refl (tt, tt) $ sets ! (agg ! (and_then ! (get ! refl) (and_then ! (get ! refl) (no_more !)))) refl typed $
      sets_last ! (agg ! (and_then ! (lit ! tt) (and_then ! (get ! refl) (no_more !)))) refl good $ exec ! 𝓣.C 𝓣.Λ (env (code.function).locals l) (after 4 (code.function).body) (at_ret (env (code.function).locals l) Post) $
      sets ! (of_opd ! (get ! refl)) refl good $ returns ! (look_at ! 0 refl) $ free_all ! refl $ use1 𝓛 (‵ (To.own_val (Some made) (some ∷ []))) (Some-of 𝓛 Boxed made w) $
      suffices ! _ (ends_at 𝓛 F.ended stayed (F.clauses 𝓛 at_mem run) z some (Some made) (tt, tt) (tt, tt)) $ says ! refl $
      nothing ! $ nothing ! $ fjoin ! $ join ! $ nothing ! $ join ! $ done !))))))

pub parts_spec : {M : Type 1} → stated.statement M
unfolding tables_of
parts_spec 𝓤 𝓛 𝓜 𝓡 wired =
    let 𝓣 : Tables 𝓤 𝓛.H = tables_of 𝓤 𝓛.H 𝓜 (tables 𝓤 𝓛.H 𝓜 𝓡 𝓡.env) in
    entered 𝓤 𝓛.H (triple_of 𝓛 F.signature (F.spec 𝓛 𝓜.mem 𝓡.returns)) 𝓣.C 𝓣.Λ #self code.function (code.unfolded 𝓤 𝓛.H 𝓜 𝓡 wired)
    (walk_Meets 𝓛 F.ended stayed (Goes-dropped 𝓛 0 From yes (λ κs x f. refl), tt) (F.clauses 𝓛 𝓜.mem 𝓡.returns) (WpFn 𝓤 𝓛.H 𝓣.C 𝓣.Λ code.function) (WpFn-mono 𝓤 𝓛.H 𝓛.laws 𝓣 code.function)
    (λ z. walk 𝓛 𝓜.mem 𝓡.returns 𝓣 z.0.3.0.ptr z.0.3.0.alloc z.0.3.0.held z.0.4.0))
