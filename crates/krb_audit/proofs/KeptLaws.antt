-- What is beyond more kvnos is beyond fewer.
use Rattle.krb_audit.proofs.Cited.{◌≡◌, ◌∙◌, ℕ, ◌+◌, Bool, ◌&&◌, List, None, ap, sym, arith, EntryParts, PlacedEntry}
use Rattle.std.specs.Prelude.{zero, suc, ◌-◌}
use Rattle.std.proofs.lemmas.Bool.{and_parts}
use Rattle.krb_audit.specs.Laws.{MoreAreKept}
use Rattle.krb_audit.specs.Newest.{is_left, left_after}
use Rattle.krb_audit.specs.Selection.{is_old_for}

-- an entry is left, and old among what is left
abbrev is_old_left : ℕ → List PlacedEntry → EntryParts → ℕ → Bool
is_old_left now xs e n = is_left n xs e && is_old_for now None (left_after n xs) e

pub more_are_kept : MoreAreKept
more_are_kept zero now xs e is = is
more_are_kept (suc n) now xs e is =
    let up : suc n + 1 - 1 ≡ suc n = omega arith in
    let down : suc n - 1 ≡ n = omega arith in
    ap (is_old_left now xs e) down ∙ (and_parts (is_left (suc n) xs e) (is_old_for now None (left_after (suc n) xs) e) (ap (is_old_left now xs e) (sym up) ∙ is)).0
