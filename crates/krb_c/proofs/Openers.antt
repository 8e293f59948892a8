-- Which entry opens a ticket.
use Rattle.krb_match.proofs.Cited.{◌≡◌, arith, ℕ, cond, List, ◌∷◌, ◌==◌, ◌&&◌, Parts, PlacedEntry, have_same_name}
use Rattle.krb_c.specs.Opener.{keyed}

-- one more entry, which may have the name and the enctype
pub keyed_next : (name : Parts) (etype : ℕ) (x : PlacedEntry) (xs : List PlacedEntry) → keyed name etype (x ∷ xs) ≡ cond (x.1.enctype == etype && have_same_name name x.1.principal) (x ∷ keyed name etype xs) (keyed name etype xs)
keyed_next name etype x xs = grind arith
