-- The newest stamps at the numbers of names.
use Rattle.krb_audit.proofs.Cited.{◌∙◌, at_number, ◌≡◌, ℕ, cond, List, [], ◌∷◌, get_or, Option, None, refl, ap, arith, option_map, fold, Parts, have_same_name, EntryParts, PlacedEntry, Row, Stamp, is_old, AreRows, stamp_of, AreNewest, filter, has_other_version, newest, newest_from, newer_stamp, stamped, is_old_row}
use Rattle.krb_audit.proofs.RowLemmas.{IsRow, at_name}

newest_folded : (p : Parts) (xs : List PlacedEntry) (o : Option EntryParts) → fold (λ (s : Option Stamp) (x : PlacedEntry). cond (have_same_name p x.1.principal) (newer_stamp s (stamp_of x.1)) s) (option_map stamp_of o) xs ≡ option_map stamp_of (newest_from o (filter (λ x. have_same_name p x.1.principal) xs))
newest_folded p [] o = refl
newest_folded p (x ∷ xs) o = grind (arith, newest_folded p xs)

pub are_newest : (all xs : List PlacedEntry) (rows : List Row) (list : List (Option Stamp)) → AreRows all xs rows → ((i : ℕ) → get_or list i None ≡ fold (at_number (λ (s : Option Stamp) (r : Row). newer_stamp s r.stamp) i) None rows) → AreNewest all xs list
are_newest all xs rows list are kept p i first =
    at_name (λ (s : Option Stamp) (r : Row). newer_stamp s r.stamp) (λ (s : Option Stamp) (x : PlacedEntry). newer_stamp s (stamp_of x.1)) None all xs rows list p i are (λ s r x is. ap (newer_stamp s) is.stamp) kept first
    ∙ newest_folded p xs None

-- ---- old rows

other_version : (e : EntryParts) (o : Option EntryParts) → has_other_version (stamped (stamp_of e)) (option_map stamped (option_map stamp_of o)) ≡ has_other_version e o
other_version e o = grind arith

pub old_row : (all xs : List PlacedEntry) (stamps : List (Option Stamp)) (r : Row) (x : PlacedEntry) → AreNewest all xs stamps → IsRow all x r → is_old_row stamps r ≡ is_old xs x.1
old_row all xs stamps r x are is = grind (arith, is.stamp, are x.1.principal r.first is.first, other_version x.1 (newest x.1.principal xs))
