-- Names as keys, and which names are nearly the same.
use Rattle.std.specs.Prelude.{◌≡◌, ℕ, List, [], ◌∷◌, map, slice_get, Bool, ◌||◌, Option, IfSome, is_some}
use Rattle.std.specs.List.{position_from}
use Rattle.std.specs.Option.{option_map_or}
use Rattle.std.specs.Str.{bytes_eq}
use Rattle.std.specs.Vec.{vec_items}
use Rattle.std.specs.Char.{to_ascii_lowercase}
use Rattle.krb_wire.specs.Names.{name_text}
use Rattle.krb_wire.specs.Spelling.{Parts}
use Rattle.krb_keytab.specs.Find.{PlacedEntry, placed_entries}
use Rattle.krb_keytab.specs.Store.{KeytabState}
use Rattle.krb_copy.specs.Classes.{emptiness}
use Rattle.krb_match.specs.declared.names.EntryNames.{EntryNames}

-- a name as a key: whether it has components, and its text
abbrev pub name_key : Parts → List ℕ
name_key p = emptiness p ∷ name_text p

abbrev pub entry_key : PlacedEntry → List ℕ
entry_key x = name_key x.1.principal

-- a name as a key, in lower case
abbrev pub folded_key : Parts → List ℕ
folded_key p = map to_ascii_lowercase (name_key p)

-- a name as a key, without its realm
abbrev pub bare_key : Parts → List ℕ
bare_key p = name_key (record p { realm = [] })

-- two names are nearly equal: but for the case of ASCII letters, or but for the realm
abbrev pub is_near : Parts → Parts → Bool
is_near p q = bytes_eq (folded_key p) (folded_key q) || bytes_eq (bare_key p) (bare_key q)

-- the number of the first entry whose name is nearly equal to a name
abbrev pub near_entry : List PlacedEntry → Parts → Option ℕ
near_entry xs p = position_from (λ x. is_near p x.1.principal) 0 xs

-- the name of the entry with a number in a keytab, as text
abbrev pub entry_text : KeytabState → ℕ → List ℕ
entry_text k n = option_map_or (λ x. name_text x.1.principal) (slice_get (placed_entries k) n) []

-- ---- for private contracts

-- the keys are those of entries, with near ones if they are wanted
pub record AreNames {A : Type 0} (near : Bool) (xs : List PlacedEntry) (names : EntryNames A) : Type 0 where
  pub exact : map vec_items names.keys.items ≡ map entry_key xs
  pub wanted : is_some names.near ≡ near
  pub folded : IfSome names.near (λ keys. map vec_items keys.0.items ≡ map (λ x. folded_key x.1.principal) xs)
  pub bare : IfSome names.near (λ keys. map vec_items keys.1.items ≡ map (λ x. bare_key x.1.principal) xs)
