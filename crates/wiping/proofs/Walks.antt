-- How the proofs of the methods of a struct over an allocator begin and end. Assumes `Logic`.
--     Over           such a struct.    Block     what goes back to it.    Call, inside      what a call binds, and what one that the body makes binds
--     takes_met      `allocate` and its like meet their contract, by a walk.    taken          how the walk ends.    asks      a call of such a method
--     gives_met      `deallocate` and its like meet theirs.                     given_back     how the walk ends.    hands     a call of such a method
use Rattle.wiping.proofs.Steps.{◌≡◌, ℕ, ◌^◌, ◌<◌, Bool, true, false, List, [], ◌∷◌, refl, w64, Bor, Ura, Ty, Fn, Val, vunit, vint, vptr, SProp, ent, sep, emp, id⊢, Fml, ftrue, fsep, fwand, flft, WpFn, Logic, sem, Item, Sq, ‵, raw, ◌⊛◌, some, given, ◌$◌, ◌∵◌, !, qed, by, move, keep, use0, use1, split, join, fsplit, fjoin, feq_i, flt_i, done, fact, fact_i, tables, usize, unit, yes, hidden_shr, uint_vals, uint_Tells, owns, Ptr, block_ptr, null_ptr, ptr_val, rawptr_vals, rawptr_Tells, plain, heard, nothing, triple_of, Stays, stay_dropped, walk_of, Goes-dropped, Al, token, proved, leaves, zeros, cleared}
use Rattle.std.proofs.Common.{Ok, Err}
use mir.Syntax.{Args, Callee, named, a_type, dnil, dcons}
use base.Logic.{never, fst∗, via}
use base.Fml.{Lft}
use base.Share
use prog.Model.{Model}
use prog.Wp.{Closed}
use types.Kit.{prop, split3, regoal}
use contract.BorrowLft.{◌⊑◌, ⊑_refl, ⊑_trans}
use contract.Lifetimes.{Lfts, Shares}
use contract.Running.{Running, MachineTables}
use sound.WpLaws.{FmC}
use denote.Builtin.{RawPtr}
use denote.Param.{bounded}
use denote.RattleType.{RattleType}
use denote.RawPtr.{room_for, in_a_block}
use denote.Ref.{shr_vals}
use denote.Signature.{Signature, Slot, shr_ref_to, types_at}
use denote.Triple.Clauses.{Ended, Clauses, closing}
use denote.Triple.Entry.{alive}
use denote.Triple.Spec.{Meets}
use denote.Triple.Statement.{Contract}
use denote.Triple.Table.{framed}
use Rattle.std.proofs.alloc.Calls.{Answer, answer_val, got, Answer-Ok, Answer-err}
use Rattle.std.specs.Allocator.{HasLayout, block_if_ok}

-- a struct over the allocator `heap`, by its row and by the right to free a block
pub record Over : Type 2 where
  pub heap : Al
  pub row : RattleType
  pub right : row.Denot → Ty → Ptr → Fml

-- the type arguments of such a struct's methods
abbrev pub args : Al → Args
args Z = bounded (a_type ∷ []) (Z.row, tt) (dcons Z.d (dcons Z.drops dnil))

-- what a call binds besides `self` and a pointer, and what is known of it
pub record Call (Z : Al) : Type 0 where
  pub κs : Lfts 2
  pub qs : Shares 2
  pub outlives : κs.0 ⊑ κs.1.0
  pub lives : κs.1.0 ⊑ Z.row.lives
  pub size : ℕ
  pub align : ℕ
  pub ty : Ty
  pub layout : HasLayout ty size align
  pub size_fits : size < 2 ^ 64
  pub align_fits : align < 2 ^ 64

-- what a call that the body makes binds, with the token of `&self` split in two
abbrev pub inside : {Z : Al} → Call Z → Call Z
inside {Z} x = record x {
  κs = (x.κs.0, (x.κs.0, tt));
  qs = (Share.left x.qs.0, (Share.right x.qs.0, tt));
  outlives = ⊑_refl x.κs.0;
  lives = ⊑_trans x.κs.0 x.κs.1.0 Z.row.lives x.outlives x.lives;
}

module _ {M : Type 1} {𝓤 : Ura M} (𝓛 : Logic 𝓤) where
  open 𝓛 use {A, H}

  -- what is at a pointer that is not null
  pub record Block : Type 1 where
    pub at : Ty → ℕ → Ptr → Fml
    pub not_null : (τ : Ty) (n : ℕ) → ent 𝓤 (sem 𝓛 (at τ n null_ptr)) (never 𝓤)

  -- the room of a block, and a cleared block
  abbrev pub room : Block
  room = record { at = λ τ n. room_for τ; not_null = λ τ n. id⊢ 𝓤 (never 𝓤) }

  abbrev pub clear : Block
  clear = record { at = cleared; not_null = λ τ n. fst∗ 𝓤 (never 𝓤) (sem 𝓛 (fwand (zeros n null_ptr) (room_for τ null_ptr))) }

  -- what `allocate` returned
  abbrev pub Answered : (Z : Al) → Z.row.Denot → Ty → Val → Item 𝓤
  Answered Z h τ v = some (λ (c : Bool × (ℕ × ℕ)). given (v ≡ answer_val c.0 c.1.0 c.1.1) (‵ (got (token Z h) τ c.0 c.1.0 c.1.1)))

  module _ (𝓜 : Model 𝓤 H) (𝓡 : Running 𝓤 H 𝓜) where
    -- the tables that a body is walked over
    abbrev pub T : MachineTables 𝓤 H 𝓜
    T = tables 𝓤 H 𝓜 𝓡 𝓡.env

    -- a call may be framed
    pub fm : FmC 𝓤 H 𝓛.laws T.C
    fm = framed 𝓤 H 𝓜 T

module _ (O : Over) where
  -- `&self`, a size and a pointer
  abbrev self : Slot 2
  self = shr_ref_to (0 ∷ []) tt (plain (λ _. O.row))

  abbrev number : Slot 2
  number = plain (λ _. usize)

  abbrev pointer : Slot 2
  pointer = plain (λ _. RawPtr)

  -- the lifetime of `&self` is the shorter one
  abbrev signed : List (Slot 2) → RattleType → Signature
  signed ss R = record { lifetimes = 2; outlives = record { long = 1; long_ok = tt; short = named 0; short_ok = tt } ∷ []; params = self ∷ ss; result = plain (λ _. R) }

  -- the signatures of `allocate` and of `deallocate`
  abbrev takes : Ended
  takes = record { signature = signed (number ∷ number ∷ []) Answer; kept = (yes, (yes, (yes, tt))) }

  abbrev gives : Ended
  gives = record { signature = signed (pointer ∷ number ∷ number ∷ []) unit; kept = (yes, (yes, (yes, (yes, tt)))) }

  abbrev take_stays : Stays takes.signature.params takes.kept
  take_stays = (stay_dropped self yes, (stay_dropped number yes, (stay_dropped number yes, tt)))

  abbrev give_stays : Stays gives.signature.params gives.kept
  give_stays = (stay_dropped self yes, (stay_dropped pointer yes, (stay_dropped number yes, (stay_dropped number yes, tt))))

  module _ {M : Type 1} {𝓤 : Ura M} (𝓛 : Logic 𝓤) where
    open 𝓛 use {A, H}

    -- what is seen of `self`
    abbrev pub sees : Lft → Bor O.row.Denot → Fml
    sees κ r = hidden_shr O.row κ r.now r.ref_ptr.0 r.ref_ptr.1

    -- what is seen of `self`, and the tokens
    abbrev Given : Call O.heap → Bor O.row.Denot → List (Item 𝓤)
    Given x r = ‵ (sees x.κs.0 r) ∷ ‵ (flft x.κs.0 x.qs.0) ∷ (‵ (flft x.κs.1.0 x.qs.1.0) ⊛ ‵ ftrue) ∷ []

    -- the sizes, as they are passed
    sized : (x : Call O.heap) → ent 𝓤 (emp 𝓤) (sem 𝓛 (owns (usize ∷ usize ∷ []) (x.size, (x.align, tt)) (vint w64 x.size ∷ [], (vint w64 x.align ∷ [], tt))))
    sized x = qed 𝓛 [] ∵ nothing ! $ flt_i ! x.align (2 ^ 64) x.align_fits $ feq_i ! (List Val) (vint w64 x.align ∷ []) (vint w64 x.align ∷ []) refl $ fjoin ! $ fjoin ! $
        flt_i ! x.size (2 ^ 64) x.size_fits $ feq_i ! (List Val) (vint w64 x.size ∷ []) (vint w64 x.size ∷ []) refl $ fjoin ! $ fjoin ! $ done !

    -- the token, as it is passed
    halves : (x : Call O.heap) → ent 𝓤 (A.lft x.κs.0 x.qs.0) (alive 𝓛 takes.signature (inside x).κs (inside x).qs)
    halves x = qed 𝓛 (‵ (flft x.κs.0 x.qs.0) ∷ []) ∵ use1 𝓛 (‵ (flft x.κs.0 (Share.left x.qs.0)) ⊛ ‵ (flft x.κs.0 (Share.right x.qs.0))) (𝓛.lfts.lft_split x.κs.0 x.qs.0) $ split ! $
        nothing ! $ move ! (2 ∷ 0 ∷ []) $ join ! $ move ! (1 ∷ 0 ∷ []) $ join ! $ done !

    abbrev taking : Clauses 𝓤 takes
    taking κs a = record {
      ghost = Ty;
      requires = λ τ. sep 𝓤 (fact 𝓤 (κs.1.0 ⊑ O.heap.row.lives)) (fact 𝓤 (HasLayout τ a.1.0 a.1.1.0));
      ensures = λ τ r e. sem 𝓛 (block_if_ok (O.right a.0.now) τ r);
    }

    -- the contract of a method that takes a block, and a call's arguments
    abbrev pub Taking : Contract 𝓤
    Taking = triple_of 𝓛 takes.signature (closing 𝓛 takes taking)

    abbrev pub at_take : Call O.heap → Bor O.row.Denot → Taking.Ghost
    at_take x r = ((x.κs, x.qs, (x.outlives, tt), (r, (x.size, (x.align, tt))), (shr_vals r, (vint w64 x.size ∷ [], (vint w64 x.align ∷ [], tt)))), x.ty)

    abbrev pub Taken : Call O.heap → Bor O.row.Denot → Val → SProp 𝓤
    Taken x r = (walk_of 𝓛 takes take_stays taking).post (at_take x r)

    pub taken : (x : Call O.heap) (r : Bor O.row.Denot) (y : Bool) (b o : ℕ)
        → ent 𝓤 (sep 𝓤 (sem 𝓛 (got (O.right r.now) x.ty y b o)) (alive 𝓛 takes.signature x.κs x.qs)) (Taken x r (answer_val y b o))
    taken x r true b o =
        qed 𝓛 (‵ (got (O.right r.now) x.ty true b o) ∷ raw (alive 𝓛 takes.signature x.κs x.qs) ∷ []) ∵
        use0 𝓛 (‵ (Answer.own_val (Ok (block_ptr b o)) (answer_val true b o ∷ []))) (Answer-Ok 𝓛 b o) $ nothing ! $ nothing ! $ fjoin ! $ nothing ! $ fjoin ! $ nothing ! $ fjoin ! $
        move ! (3 ∷ 0 ∷ 1 ∷ 2 ∷ []) $ by ! (leaves 𝓛 takes take_stays taking (at_take x r) (answer_val true b o) (Ok (block_ptr b o)) (tt, (tt, (tt, tt))) (tt, (tt, (tt, tt))))
    taken x r false b o =
        qed 𝓛 (‵ ftrue ∷ raw (alive 𝓛 takes.signature x.κs x.qs) ∷ []) ∵
        use0 𝓛 (‵ (Answer.own_val (Err (record {})) (answer_val false b o ∷ []))) (Answer-err 𝓛) $ nothing ! $ nothing ! $ fjoin ! $ nothing ! $ fjoin ! $ nothing ! $ fjoin ! $
        move ! (3 ∷ 0 ∷ 1 ∷ 2 ∷ []) $ by ! (leaves 𝓛 takes take_stays taking (at_take x r) (answer_val false b o) (Err (record {})) (tt, (tt, (tt, tt))) (tt, (tt, (tt, tt))))

    pub asks : (x : Call O.heap) (r : Bor O.row.Denot) → ent 𝓤 (sep 𝓤 (sem 𝓛 (sees x.κs.0 r)) (A.lft x.κs.0 x.qs.0)) (Taking.pre (at_take (inside x) r))
    asks x r =
        let Laid : Type 0 = HasLayout x.ty x.size x.align in let Lives : Type 0 = x.κs.0 ⊑ O.heap.row.lives in
        qed 𝓛 (‵ (sees x.κs.0 r) ∷ ‵ (flft x.κs.0 x.qs.0) ∷ []) ∵
        use0 𝓛 (raw (fact 𝓤 Laid)) (fact_i 𝓤 Laid (emp 𝓤) x.layout) $ use0 𝓛 (raw (fact 𝓤 Lives)) (fact_i 𝓤 Lives (emp 𝓤) (inside x).lives) $ join ! $
        use0 𝓛 (‵ (owns (usize ∷ usize ∷ []) (x.size, (x.align, tt)) (vint w64 x.size ∷ [], (vint w64 x.align ∷ [], tt)))) (sized x) $
        move ! (2 ∷ []) $ feq_i ! (List Val) (shr_vals r) (shr_vals r) refl $ fjoin ! $ fjoin ! $
        move ! (2 ∷ []) $ use1 𝓛 (raw (alive 𝓛 takes.signature (inside x).κs (inside x).qs)) (halves x) $ join ! $ join ! $ done !

    module _ (𝓜 : Model 𝓤 H) (𝓡 : Running 𝓤 H 𝓜) (k : Callee) (e : Fn) (closed : Closed 𝓤 H (T 𝓛 𝓜 𝓡).C (T 𝓛 𝓜 𝓡).Λ k e) where
      pub takes_met : ((x : Call O.heap) (r : Bor O.row.Denot)
          → Sq 𝓛 (Given x r) (prop (WpFn 𝓤 H (T 𝓛 𝓜 𝓡).C (T 𝓛 𝓜 𝓡).Λ e (vptr r.ref_ptr.0 r.ref_ptr.1 ∷ vint w64 x.size ∷ vint w64 x.align ∷ []) (Taken x r))))
          → Meets 𝓛 takes.signature ((T 𝓛 𝓜 𝓡).C k) (closing 𝓛 takes taking)
      takes_met walk =
          let Sized = Goes-dropped 𝓛 2 number yes (λ κs x f. refl) in
          proved 𝓛 takes take_stays taking 𝓜 𝓡 (Goes-dropped 𝓛 2 self yes (λ κs x f. refl), (Sized, (Sized, tt))) k e closed
          (λ κs. (shr_vals, (uint_vals w64, (uint_vals w64, tt)))) (λ κs. ((λ r vs s. s.0), (uint_Tells w64, (uint_Tells w64, tt)))) (λ κs qs outlives a τ are.
          let Laid : Type 0 = HasLayout τ a.1.0 a.1.1.0 in let Lives : Type 0 = κs.1.0 ⊑ O.heap.row.lives in
          qed 𝓛 (((‵ (flft κs.0 qs.0) ⊛ ‵ (flft κs.1.0 qs.1.0) ⊛ ‵ ftrue) ⊛ ‵ (owns (types_at takes.signature.params κs) a (shr_vals a.0, (vint w64 a.1.0 ∷ [], (vint w64 a.1.1.0 ∷ [], tt)))))
          ∷ (raw (fact 𝓤 Lives) ⊛ raw (fact 𝓤 Laid)) ∷ []) ∵
          move ! (1 ∷ []) $ split ! $ heard ! Lives (λ lives. heard ! Laid (λ layout. split ! $ split ! $ move ! (2 ∷ []) $ fsplit ! $ fsplit ! $ keep ! (1 ∷ 3 ∷ 4 ∷ []) $
          walk (record { κs = κs; qs = qs; outlives = outlives.0; lives = lives; size = a.1.0; align = a.1.1.0; ty = τ; layout = layout; size_fits = are.1.0.1; align_fits = are.1.1.0.1 }) a.0)))

    module _ (B : Block 𝓛) where
      -- what is given back: the block, with the right to free it
      abbrev Back : O.row.Denot → Ty → ℕ → Ptr → Fml
      Back d τ n p = fsep (B.at τ n p) (O.right d τ p)

      abbrev giving : Clauses 𝓤 gives
      giving κs a = record {
        ghost = Ty;
        requires = λ τ. sep 𝓤 (fact 𝓤 (κs.1.0 ⊑ O.heap.row.lives)) (sep 𝓤 (fact 𝓤 (HasLayout τ a.1.1.0 a.1.1.1.0)) (sem 𝓛 (Back a.0.now τ a.1.1.0 a.1.0)));
        ensures = λ τ r e. sem 𝓛 ftrue;
      }

      -- the contract of a method that gives a block back, and a call's arguments
      abbrev pub Giving : Contract 𝓤
      Giving = triple_of 𝓛 gives.signature (closing 𝓛 gives giving)

      abbrev pub at_give : Call O.heap → Bor O.row.Denot → Ptr → Giving.Ghost
      at_give x r p = ((x.κs, x.qs, (x.outlives, tt), (r, (p, (x.size, (x.align, tt)))), (shr_vals r, (rawptr_vals p, (vint w64 x.size ∷ [], (vint w64 x.align ∷ [], tt))))), x.ty)

      abbrev Gone : Call O.heap → Bor O.row.Denot → Ptr → Val → SProp 𝓤
      Gone x r p = (walk_of 𝓛 gives give_stays giving).post (at_give x r p)

      pub given_back : (x : Call O.heap) (r : Bor O.row.Denot) (p : Ptr) → ent 𝓤 (alive 𝓛 gives.signature x.κs x.qs) (Gone x r p vunit)
      given_back x r p =
          qed 𝓛 (raw (alive 𝓛 gives.signature x.κs x.qs) ∷ []) ∵
          nothing ! $ feq_i ! (List Val) (vunit ∷ []) (vunit ∷ []) refl $ nothing ! $ nothing ! $ fjoin ! $ nothing ! $ fjoin ! $ nothing ! $ fjoin ! $ nothing ! $ fjoin ! $
          move ! (3 ∷ 0 ∷ 1 ∷ 2 ∷ []) $ by ! (leaves 𝓛 gives give_stays giving (at_give x r p) vunit tt (tt, (tt, (tt, (tt, tt)))) (tt, (tt, (tt, (tt, tt)))))

      pub hands : (x : Call O.heap) (r : Bor O.row.Denot) (b o : ℕ)
          → ent 𝓤 (sep 𝓤 (sem 𝓛 (Back r.now x.ty x.size (block_ptr b o))) (sep 𝓤 (sem 𝓛 (sees x.κs.0 r)) (A.lft x.κs.0 x.qs.0))) (Giving.pre (at_give (inside x) r (block_ptr b o)))
      hands x r b o =
          let Laid : Type 0 = HasLayout x.ty x.size x.align in let Lives : Type 0 = x.κs.0 ⊑ O.heap.row.lives in
          qed 𝓛 (‵ (Back r.now x.ty x.size (block_ptr b o)) ∷ ‵ (sees x.κs.0 r) ∷ ‵ (flft x.κs.0 x.qs.0) ∷ []) ∵
          use0 𝓛 (raw (fact 𝓤 Laid)) (fact_i 𝓤 Laid (emp 𝓤) x.layout) $ join ! $ use0 𝓛 (raw (fact 𝓤 Lives)) (fact_i 𝓤 Lives (emp 𝓤) (inside x).lives) $ join ! $
          use0 𝓛 (‵ (owns (usize ∷ usize ∷ []) (x.size, (x.align, tt)) (vint w64 x.size ∷ [], (vint w64 x.align ∷ [], tt)))) (sized x) $
          feq_i ! (List Val) (vptr b o ∷ []) (vptr b o ∷ []) refl $ fjoin ! $ move ! (2 ∷ []) $ feq_i ! (List Val) (shr_vals r) (shr_vals r) refl $ fjoin ! $ fjoin ! $
          move ! (2 ∷ []) $ use1 𝓛 (raw (alive 𝓛 takes.signature (inside x).κs (inside x).qs)) (halves x) $ join ! $ join ! $ done !

      module _ (𝓜 : Model 𝓤 H) (𝓡 : Running 𝓤 H 𝓜) (k : Callee) (e : Fn) (closed : Closed 𝓤 H (T 𝓛 𝓜 𝓡).C (T 𝓛 𝓜 𝓡).Λ k e) where
        -- the body, from a pointer to the postcondition
        abbrev Goes : Call O.heap → Bor O.row.Denot → Ptr → SProp 𝓤
        Goes x r p = WpFn 𝓤 H (T 𝓛 𝓜 𝓡).C (T 𝓛 𝓜 𝓡).Λ e (vptr r.ref_ptr.0 r.ref_ptr.1 ∷ ptr_val p ∷ vint w64 x.size ∷ vint w64 x.align ∷ []) (Gone x r p)

        pub gives_met : ((x : Call O.heap) (r : Bor O.row.Denot) (b o : ℕ) → Sq 𝓛 (‵ (Back r.now x.ty x.size (block_ptr b o)) ∷ Given x r) (prop (Goes x r (block_ptr b o))))
            → Meets 𝓛 gives.signature ((T 𝓛 𝓜 𝓡).C k) (closing 𝓛 gives giving)
        gives_met walk =
            let Sized = Goes-dropped 𝓛 2 number yes (λ κs x f. refl) in
            proved 𝓛 gives give_stays giving 𝓜 𝓡 (Goes-dropped 𝓛 2 self yes (λ κs x f. refl), (Goes-dropped 𝓛 2 pointer yes (λ κs x f. refl), (Sized, (Sized, tt)))) k e closed
            (λ κs. (shr_vals, (rawptr_vals, (uint_vals w64, (uint_vals w64, tt))))) (λ κs. ((λ r vs s. s.0), (rawptr_Tells, (uint_Tells w64, (uint_Tells w64, tt))))) (λ κs qs outlives a τ are.
            let Laid : Type 0 = HasLayout τ a.1.1.0 a.1.1.1.0 in let Lives : Type 0 = κs.1.0 ⊑ O.heap.row.lives in
            qed 𝓛 (((‵ (flft κs.0 qs.0) ⊛ ‵ (flft κs.1.0 qs.1.0) ⊛ ‵ ftrue) ⊛ ‵ (owns (types_at gives.signature.params κs) a (shr_vals a.0, (rawptr_vals a.1.0, (vint w64 a.1.1.0 ∷ [], (vint w64 a.1.1.1.0 ∷ [], tt))))))
            ∷ (raw (fact 𝓤 Lives) ⊛ raw (fact 𝓤 Laid) ⊛ ‵ (Back a.0.now τ a.1.1.0 a.1.0)) ∷ []) ∵
            move ! (1 ∷ []) $ split3 ! $ heard ! Lives (λ lives. heard ! Laid (λ layout. move ! (1 ∷ []) $ split ! $ split ! $ move ! (2 ∷ []) $ fsplit ! $ fsplit ! $ keep ! (5 ∷ 1 ∷ 3 ∷ 4 ∷ []) $
            let x : Call O.heap = record { κs = κs; qs = qs; outlives = outlives.0; lives = lives; size = a.1.1.0; align = a.1.1.1.0; ty = τ; layout = layout; size_fits = are.1.1.0.1; align_fits = are.1.1.1.0.1 } in
            in_a_block ! a.1.0 (Back a.0.now τ x.size) (via 𝓤 (sem 𝓛 (B.at τ x.size null_ptr)) (fst∗ 𝓤 _ (sem 𝓛 (O.right a.0.now τ null_ptr))) (B.not_null τ x.size)) (λ b o is.
            regoal ! (λ (p : Ptr). prop (Goes x a.0 p)) is refl $ walk x a.0 b o))))
