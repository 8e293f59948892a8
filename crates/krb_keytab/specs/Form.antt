-- The one spelling that is written for an entry; that the 32-bit kvno is always written is krbfile's choice (MIT keytab format, key entry).
use Rattle.std.specs.Prelude.{ℕ, ◌<◌, ◌^◌, ◌%◌, List, ◌++◌, replicate, Bool, ◌&&◌, if◌then◌else◌, IsSome}
use Rattle.std.specs.Int.{w32}
use Rattle.krb_wire.specs.declared.format.KtFormat.{KtFormat}
use Rattle.krb_wire.specs.Spelling.{digits, order_of, has_name_type, is_short, name_fits}
use Rattle.krb_keytab.specs.Entry.{EntryParts, Front, front, entry_at}

-- each length and count of an entry fits its field of sixteen bits
abbrev pub fits : KtFormat → EntryParts → Bool
fits f e = name_fits f e.principal && is_short e.key

-- the fields of an entry up to its key, with the kvno modulo 256
abbrev pub front_of : EntryParts → Front
front_of e = record { principal = e.principal; timestamp = e.timestamp; low_version = e.version % 256; enctype = e.enctype; key = e.key }

-- the bytes that are written for an entry: its fields up to the key, and the whole kvno in 32 bits
abbrev pub written_form : KtFormat → EntryParts → List ℕ
written_form f e = front f (front_of e) ++ digits (order_of f) w32 e.version

-- an entry's written form, without where the entry is in memory
pub record FormParts : Type 0 where
  pub format : KtFormat
  pub bytes : List ℕ

-- the bytes begin with an entry, however many zeros follow them
abbrev pub IsRecord : KtFormat → List ℕ → Type 0
IsRecord f bytes = (n : ℕ) → IsSome (entry_at f (bytes ++ replicate n 0))

-- the name type that is read back if this one was written
abbrev pub kept_type : KtFormat → ℕ → ℕ
kept_type f t = if has_name_type f then t else 0

-- the entry that is read back if this one was written
abbrev pub read_back : KtFormat → EntryParts → EntryParts
read_back f e = record e { principal = record { name_type = kept_type f e.principal.name_type; realm = e.principal.realm; components = e.principal.components } }

-- each number fits its type
pub record IsEntry (e : EntryParts) : Type 0 where
  pub name_type : e.principal.name_type < 2 ^ 32
  pub timestamp : e.timestamp < 2 ^ 32
  pub version : e.version < 2 ^ 32
  pub enctype : e.enctype < 2 ^ 16
