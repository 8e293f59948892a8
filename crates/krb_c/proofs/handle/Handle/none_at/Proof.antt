-- `none_at` puts a null pointer and a handle of the heap into a struct, and owns nothing behind the pointer.
use mathlib.Core.Bool.{Bool, true, false, ◌&&◌}
use Rattle.krb_c.proofs.Cited.{None, T, lit<, Ura, ty_ptr, Val, vstruct, vcons, vnil, has_ty, WT, SProp, ent, id⊢, ftrue, Memory, Routine, WpFn, Tables, Logic, Fun, fact, tables, tables_of, WpFn-mono, agg, no_more, and_then, returns, enter, alloc_all, pass_all, free_all, look_at, get, sets, yes, Valss, owns, Ptr, RawPtr, block_ptr, null_ptr, ptr_val, type_at, plain, nothing, heard, layout, triple_of, entered, says, Stays, stay_dropped, walk_of, ends_at, Goes-dropped, walk_Meets, handle_tells, within, shape, to, List, [], ◌∷◌, ◌++◌, ◌≡◌, refl, sym, subst}
use types.Kit.{‵, raw, ◌⊛◌, ◌$◌, ◌∵◌, !, qed, move, drop, use1, join, split, fsplit, fjoin, fpack, feq_i, feq_l, suffices, done}
use Rattle.std_heap.specs.contracts.Global as Heap
use Rattle.krb_c.proofs.AsBox.{E}
use Rattle.krb_c.specs.contracts.handle.Handle as Handle
use Rattle.krb_c.specs.contracts.handle.Handle.none_at as F
use Rattle.krb_c.specs.contracts.handle.Handle.none_at.Key.{name as #self}
use Rattle.krb_c.proofs.handle.Handle.none_at.Statement as stated
use Rattle.krb_c.proofs.handle.Handle.none_at.Code as code

abbrev stayed : Stays (F.ended).signature.params (F.ended).kept
stayed = (stay_dropped (plain (λ _. RawPtr)) yes, (stay_dropped (plain (λ _. Heap.the_row)) yes, tt))

ptr_good : (p : Ptr) → T (has_ty ty_ptr (ptr_val p)) × WT (ptr_val p)
ptr_good (block_ptr b o) = (tt, tt)
ptr_good null_ptr = (tt, record { fits = lit< tt })

both_tt : (x y : Bool) → T x → T y → T (x && (y && true))
both_tt true true s t = tt
both_tt true false s t = absurd t
both_tt false y s t = absurd s

abbrev word : Ptr → Val → Val
word p h = vstruct (vcons (ptr_val p) (vcons h vnil))

module _ {M : Type 1} {𝓤 : Ura M} (𝓛 : Logic 𝓤) (at_mem : Memory → SProp 𝓤) (run : Routine → Fun 𝓤) (𝓣 : Tables 𝓤 𝓛.H) where
  open 𝓛 use {H}

  abbrev Bound : Type 0
  Bound = (walk_of 𝓛 F.ended stayed (F.clauses 𝓛 at_mem run)).Ghost

  walk : (z : Bound) → ent 𝓤 ((walk_of 𝓛 F.ended stayed (F.clauses 𝓛 at_mem run)).pre z) (WpFn 𝓤 H 𝓣.C 𝓣.Λ code.function (z.0.4.0 ++ (z.0.4.1.0 ++ [])) ((walk_of 𝓛 F.ended stayed (F.clauses 𝓛 at_mem run)).post z))
  walk z =
      let p = z.0.3.0 in let a = z.0.3.1.0 in
      let Post = (walk_of 𝓛 F.ended stayed (F.clauses 𝓛 at_mem run)).post z in
      let Run : List Val → SProp 𝓤 = λ ws. WpFn 𝓤 H 𝓣.C 𝓣.Λ code.function ws Post in
      let To = type_at (F.signature).result tt in
      let made : To.Denot = record { ptr = p; alloc = a; held = None } in
      qed 𝓛 ((‵ ftrue ⊛ ‵ (owns (RawPtr ∷ Heap.the_row ∷ []) (p, (a, tt)) (z.0.4.0, (z.0.4.1.0, tt)))) ∷ raw (fact 𝓤 (p ≡ null_ptr)) ∷ []) ∵ move ! (1 ∷ []) $ heard ! (p ≡ null_ptr) (λ en. split ! $ drop ! $ fsplit ! $ feq_l ! (λ ep. fsplit !
      $ handle_tells E.al ! a z.0.4.1.0 (λ h eh fits.
      let w = word p h in
      let good : T (has_ty ty_ptr (ptr_val p) && (has_ty (layout Heap.the_row) h && true)) × WT w = (both_tt (has_ty ty_ptr (ptr_val p)) (has_ty (layout Heap.the_row) h) (ptr_good p).0 fits.0, ((ptr_good p).1, (fits.1, tt))) in
      -- [the handle of the heap; true; nothing]
      nothing ! $ move ! (1 ∷ 0 ∷ []) $ fjoin ! $ feq_i ! (List Val) (ptr_val p ∷ []) (ptr_val p ∷ []) refl $ fjoin ! $ feq_i ! (List Val) (w ∷ []) (w ∷ []) refl $ fjoin ! $
      fpack ! (Valss (RawPtr ∷ Heap.the_row ∷ [])) (within (shape Handle.the_type) (to Handle.the_type made) (w ∷ [])) (ptr_val p ∷ [], (h ∷ [], tt)) $ feq_i ! Ptr p null_ptr en $ move ! (1 ∷ []) $ fjoin ! $ use1 𝓛 (‵ (To.own_val made (w ∷ []))) (id⊢ 𝓤 _) $ move ! (1 ∷ []) $ drop ! $
      suffices ! (Run (ptr_val p ∷ h ∷ [])) (subst (λ (us : List Val). ent 𝓤 (Run (ptr_val p ∷ h ∷ [])) (Run us)) (sym (λ i. ep i ++ (eh i ++ []))) (id⊢ 𝓤 (Run (ptr_val p ∷ h ∷ [])))) $
      enter ! 𝓣.C 𝓣.Λ code.function (ptr_val p ∷ h ∷ []) Post $ alloc_all ! (λ l. pass_all ! refl (ptr_good p, (fits, tt)) $
      sets ! (agg ! (and_then ! (get ! refl) (and_then ! (get ! refl) (no_more !)))) refl good $ returns ! (look_at ! 0 refl) $ free_all ! refl $
      suffices ! _ (ends_at 𝓛 F.ended stayed (F.clauses 𝓛 at_mem run) z w made (tt, (tt, tt)) (tt, (tt, tt))) $ says ! refl $
      nothing ! $ nothing ! $ fjoin ! $ nothing ! $ fjoin ! $ join ! $ nothing ! $ join ! $ done !))))

pub none_at_spec : {M : Type 1} → stated.statement M
unfolding tables_of
none_at_spec 𝓤 𝓛 𝓜 𝓡 wired =
    let 𝓣 : Tables 𝓤 𝓛.H = tables_of 𝓤 𝓛.H 𝓜 (tables 𝓤 𝓛.H 𝓜 𝓡 𝓡.env) in
    entered 𝓤 𝓛.H (triple_of 𝓛 F.signature (F.spec 𝓛 𝓜.mem 𝓡.returns)) 𝓣.C 𝓣.Λ #self code.function (code.unfolded 𝓤 𝓛.H 𝓜 𝓡 wired)
    (walk_Meets 𝓛 F.ended stayed (Goes-dropped 𝓛 0 (plain (λ _. RawPtr)) yes (λ κs x f. refl), (Goes-dropped 𝓛 0 (plain (λ _. Heap.the_row)) yes (λ κs x f. refl), tt)) (F.clauses 𝓛 𝓜.mem 𝓡.returns) (WpFn 𝓤 𝓛.H 𝓣.C 𝓣.Λ code.function) (WpFn-mono 𝓤 𝓛.H 𝓛.laws 𝓣 code.function)
    (walk 𝓛 𝓜.mem 𝓡.returns 𝓣))
