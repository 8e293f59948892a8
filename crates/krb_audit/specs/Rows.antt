-- The entries of a keytab with their names numbered.
use Rattle.std.specs.Prelude.{◌≡◌, ℕ, List, [], ◌++◌, map, Bool, Option, Some, option_map}
use Rattle.std.specs.List.{position_from}
use Rattle.krb_wire.specs.Spelling.{Parts, FitsKt}
use Rattle.krb_wire.specs.Names.{have_same_name}
use Rattle.krb_wire.specs.declared.format.KtFormat.{KtFormat}
use Rattle.krb_names.specs.Hash.{HashedName, hash_of}
use Rattle.krb_names.specs.Numbers.{AreNumbers}
use Rattle.krb_keytab.specs.Entry.{EntryParts}
use Rattle.krb_keytab.specs.Find.{PlacedEntry}
use Rattle.krb_text.specs.Etype.{is_weak}
use Rattle.krb_audit.specs.declared.rows.Names.{Names}
use Rattle.krb_audit.specs.declared.rows.Row.{Row}
use Rattle.krb_audit.specs.declared.newest.Stamp.{Stamp}
use Rattle.krb_audit.specs.Names.{kt_name}
use Rattle.krb_audit.specs.Newest.{newer, newest}

-- the stamp of an entry: its kvno and timestamp
abbrev pub stamp_of : EntryParts → Stamp
stamp_of e = record { kvno = e.version; timestamp = e.timestamp }

-- an entry that has a stamp, and nothing else
abbrev pub stamped : Stamp → EntryParts
stamped s = record { principal = record { name_type = 0; realm = []; components = [] }; timestamp = s.timestamp; version = s.kvno; enctype = 0; key = [] }

-- the newer of two stamps, or the only one
abbrev pub newer_stamp : Option Stamp → Stamp → Option Stamp
newer_stamp newest later = option_map stamp_of (newer (option_map stamped newest) (stamped later))

-- the stamp of the newest entry of a name
abbrev pub newest_stamp : Parts → List PlacedEntry → Option Stamp
newest_stamp name xs = option_map stamp_of (newest name xs)

-- the number of the first entry of a name among entries, which are numbered from 0
abbrev pub first_number : Parts → List PlacedEntry → Option ℕ
first_number name xs = position_from (λ x. have_same_name name x.1.principal) 0 xs

-- what a row has
abbrev pub shown : Row → Option ℕ × Stamp × Bool
shown r = (Some r.first, r.stamp, r.is_weak)

-- what the row of an entry has: the number of the first entry of its name among all, its stamp, and whether its enctype is weak
abbrev pub row_in : List PlacedEntry → PlacedEntry → Option ℕ × Stamp × Bool
row_in all x = (first_number x.1.principal all, stamp_of x.1, is_weak x.1.enctype)

-- the rows are those of these entries
abbrev pub AreRows : List PlacedEntry → List PlacedEntry → List Row → Type 0
AreRows all xs rows = map shown rows ≡ map (row_in all) xs

-- ---- in a map

-- the bytes that encode a name without its type, with their hash; the name fits the format
pub record IsNameKey (f : KtFormat) (p : Parts) (k : HashedName) : Type 0 where
  pub fits : FitsKt f p
  pub hash : k.0 ≡ hash_of k.1.now
  pub bytes : k.1.now ≡ kt_name f p

-- the name of an entry
abbrev pub name_in : PlacedEntry → Parts
name_in x = x.1.principal

-- the entries before `rest` have rows, and their names are numbered
pub record AreNumbered {A : Type 0} (f : KtFormat) (all rest : List PlacedEntry) (names : Names A) : Type 0 where
  pub before : List PlacedEntry
  pub parts : before ++ rest ≡ all
  pub numbers : AreNumbers name_in have_same_name (IsNameKey f) before names.numbers
  pub rows : map shown names.rows.items ≡ map (row_in all) before
