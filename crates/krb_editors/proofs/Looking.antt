-- Several files were looked for, one after the other.
use Rattle.krb_editors.proofs.Cited.{arith, List, ◌∷◌, refl, subst, sym, ℕ, ◌<◌, get_or, length, Bool, false, ◌≡◌, ◌+◌, drop, drop_more, ◌||◌, Ghosts, FileName, LooksAt, LooksFor, ErrorWatch, or_assoc}

pub or_false : (a : Bool) → (a || false) ≡ a
or_false a = grind arith

module _ {F : Type 0} (trait : Ghosts F) (files : F) where
  -- what is seen of the rest of the names, after one so far was missing or not, is seen of all
  abbrev pub Leads : List FileName → List FileName → ErrorWatch → ErrorWatch → Bool → Type 0
  Leads all rest first now missing = (end : ErrorWatch) (later : Bool) → LooksFor trait files rest now end later → LooksFor trait files all first end (missing || later)

  module _ (all : List FileName) (i : ℕ) (none : FileName) (first old new : ErrorWatch) (missing here : Bool) (below : i < length all) (leads : Leads all (drop i all) first old missing)
      (looks : LooksAt trait files (get_or all i none) old new here) where
    with_file : Leads all (get_or all i none ∷ drop (i + 1) all) first old missing
    with_file = subst (λ (rest : List FileName). Leads all rest first old missing) (drop_more all i none below) leads

    pub one_more : Leads all (drop (i + 1) all) first new (missing || here)
    one_more = λ end later over. subst (λ (b : Bool). LooksFor trait files all first end b) (sym (or_assoc missing here later)) (with_file end (here || later) (new, here, later, looks, over, refl))
