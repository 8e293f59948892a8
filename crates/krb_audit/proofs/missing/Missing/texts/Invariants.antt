use Rattle.krb_audit.proofs.ForAnswers.{List, map, take, vec_items, PlacedEntry, IsMissing, AreTaken, seen_in}
use Rattle.krb_audit.proofs.missing.Missing.texts.Given as goal

-- the texts so far were taken
abbrev pub invariant-texts : goal.invariant-texts
invariant-texts g l = (before : List PlacedEntry) → IsMissing (map vec_items l.fn.wanted) before l.fn.self
    → AreTaken (seen_in before) (map vec_items l.fn.wanted) (map vec_items (take l.text-index l.fn.wanted)) l.self.wanted l.missing.items
