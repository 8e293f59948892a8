-- A command was run over files one after the other.
use Rattle.krb_driver.proofs.Cited.{List, ◌∷◌, inl, inr, refl, subst, ℕ, ◌+◌, ◌<◌, drop, get_or, length, drop_more, Option, CommandPlan, IsFalse, IsTrue, Ghosts, FileName, RunEnd, Round, RunsFile, RunsOver, is_last}

module _ {S F R W E : Type 0} (trait : Ghosts F) (plan : S → FileName → Option ℕ → CommandPlan) (after : S → RunEnd → S) where
  -- what becomes of the rest of the files becomes of all
  abbrev pub Leads : List FileName → List FileName → Round S F R W E → Round S F R W E → Type 0
  Leads all rest first now = (end : Round S F R W E) → RunsOver trait plan after rest now end → RunsOver trait plan after all first end

  module _ (all : List FileName) (i : ℕ) (none : FileName) (first old new : Round S F R W E) (end : RunEnd) (below : i < length all) (leads : Leads all (drop i all) first old)
      (runs : RunsFile trait plan after (get_or all i none) old new end) where
    with_file : Leads all (get_or all i none ∷ drop (i + 1) all) first old
    with_file = subst (λ (rest : List FileName). Leads all rest first old) (drop_more all i none below) leads

    -- it was run over a file, and others may come
    pub one_more : IsFalse (is_last end.ending) → Leads all (drop (i + 1) all) first new
    one_more goes = λ last over. with_file last (new, end, runs, inr (goes, over))

    -- it was run over a file, and that was the last
    pub last_one : IsTrue (is_last end.ending) → RunsOver trait plan after all first new
    last_one last = with_file new (new, end, runs, inl (last, refl))
