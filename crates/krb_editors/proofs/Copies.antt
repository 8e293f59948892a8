-- Copying from a keytab.
use Rattle.krb_editors.proofs.Cited.{◌≡◌, true, List, [], inl, inr, refl, Makes, CommandPlan, Effect, Fails, IsSpent, faults, makes-end, Ghosts, NothingToCopy, FileName, CopyParts, copies_from, finds_none}
use Rattle.krb_keytab.specs.Find.{PlacedEntry}
use Rattle.krb_files.proofs.PlanLaws.{loaded-none}

-- memory ran out before any load
pub makes_spent : {F : Type 0} (trait : Ghosts F) (old : F) (plan : CommandPlan) (effect : Effect) → IsSpent effect → Makes trait old plan effect old
makes_spent trait old plan effect spent = record { answers = []; loads = loaded-none trait faults plan old; made = inl spent }

-- what is asked for is not there
pub makes_none : {F : Type 0} (trait : Ghosts F) (old : F) (o : CopyParts) (from to : FileName) (xs : List PlacedEntry) → finds_none o.selection xs ≡ true → Makes trait old (copies_from o from to xs) (Fails from.name.now NothingToCopy) old
makes_none trait old o from to xs none = rw none (makes-end trait old (Fails from.name.now NothingToCopy) (Fails from.name.now NothingToCopy) (inr refl))
