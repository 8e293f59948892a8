-- One more ticket that is looked at.
use Rattle.krb_match.proofs.Cited.{◌≡◌, ◌∙◌, sym, arith, ℕ, Bool, cond, List, [], ◌∷◌, ◌++◌, map, append_assoc, append-nil, Option, None, option_or, PlacedEntry, PlacedCredential, AreMatched, name_of, MatchedParts, first_near, matched, near_by, said}

pub added : (wanted : Bool) (xs : List PlacedEntry) (x : PlacedCredential) (rest all : List PlacedCredential) (old new : List MatchedParts) (near next : Option ℕ) → AreMatched wanted xs (x ∷ rest) all old near → new ≡ old ++ matched xs x ∷ [] → next ≡ option_or near (cond wanted (near_by xs (name_of x.1) (said xs x.1)) None) → AreMatched wanted xs rest all new next
added wanted xs x rest all old new near next h tickets_are next_is = search (arith, append_assoc)

pub all_added : (wanted : Bool) (xs : List PlacedEntry) (all : List PlacedCredential) (tickets : List MatchedParts) (near : Option ℕ) → AreMatched wanted xs [] all tickets near → (tickets ≡ map (matched xs) all) × (near ≡ cond wanted (first_near xs all) None)
all_added wanted xs all tickets near h = (sym (append-nil tickets) ∙ h.tickets_are, (grind arith) ∙ h.near_is)
