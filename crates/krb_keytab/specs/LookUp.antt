-- What a look-up found among the first entries: whether one has the name and the enctype, and the entry selected.
use Rattle.std.specs.Prelude.{◌≡◌, ℕ, List, Bool, true, false, filter, Option, None, Some, Result, Ok, Err, IsTrue, nat_eq}
use Rattle.krb_wire.specs.Spelling.{Parts}
use Rattle.krb_walk.specs.declared.refusal.Code.{Code}
use Rattle.krb_walk.specs.declared.refusal.Code.TheVariants.{NotFound, KvnoNotFound}
use Rattle.krb_keytab.specs.Find.{PlacedEntry, is_match, look_up_in}
use Rattle.std.specs.List.{starts_with}
use Rattle.krb_wire.specs.declared.format.KtFormat.{KtFormat}
use Rattle.krb_wire.specs.Names.{have_same_name}
use Rattle.krb_keytab.specs.Entry.{EntryParts, Spells}

-- what the look-up returns of that
abbrev pub answer : Bool → Option PlacedEntry → Result PlacedEntry Code
answer named (Some x) = Ok x
answer true None = Err KvnoNotFound
answer false None = Err NotFound

-- it is the result of the look-up among these entries
abbrev pub IsFoundAmong : Parts → ℕ → ℕ → List PlacedEntry → Bool → Option PlacedEntry → Type 0
IsFoundAmong name kvno enctype xs named best = answer named best ≡ look_up_in kvno (filter (is_match name enctype) xs)

-- ---- the prefix of each entry of a name

-- bytes that spell an entry of the name begin with the prefix
abbrev pub IsPrefix : KtFormat → Parts → List ℕ → Type 0
IsPrefix f name prefix = (e : EntryParts) (bytes : List ℕ) → Spells f e bytes → IsTrue (have_same_name name e.principal) → IsTrue (starts_with nat_eq bytes prefix)
