-- Entries of a keytab: what they are, how they are spelled, how they are read (MIT keytab format, key entry).
use Rattle.std.specs.Prelude.{◌≡◌, ℕ, ◌<◌, ◌^◌, List, [], ◌∷◌, ◌++◌, Option, Some, None, ◌==◌, if◌then◌else◌}
use Rattle.std.specs.Int.{w16, w32}
use Rattle.krb_wire.specs.declared.format.KtFormat.{KtFormat}
use Rattle.krb_wire.specs.Spelling.{Parts, order_of, digits, data16, kt_principal, IsShort, FitsKt}
use Rattle.krb_wire.specs.Reading.{◌>>=◌, byte_at, number_at, data16_at, kt_principal_at}

-- an entry of a keytab: its principal, its time in seconds, its kvno (`version`), its enctype and its key
pub record EntryParts : Type 0 where
  pub principal : Parts
  pub timestamp : ℕ
  pub version : ℕ
  pub enctype : ℕ
  pub key : List ℕ

-- the fields of an entry up to its key, with the kvno of 8 bits
pub record Front : Type 0 where
  pub principal : Parts
  pub timestamp : ℕ
  pub low_version : ℕ
  pub enctype : ℕ
  pub key : List ℕ

-- the bytes that spell the fields of an entry up to its key
abbrev pub front : KtFormat → Front → List ℕ
front f x =
    kt_principal f x.principal
    ++ (digits (order_of f) w32 x.timestamp
    ++ ((x.low_version ∷ []) ++ (digits (order_of f) w16 x.enctype ++ data16 (order_of f) x.key)))

-- a front that has a spelling: its parts fit their fields
pub record FitsFront (f : KtFormat) (x : Front) : Type 0 where
  pub principal : FitsKt f x.principal
  pub timestamp : x.timestamp < 2 ^ 32
  pub low_version : x.low_version < 256
  pub enctype : x.enctype < 2 ^ 16
  pub key : IsShort x.key

-- the kvno of an entry: the number of 32 bits after the key, if four bytes are there and it is not 0, or else the 8-bit one
abbrev pub version_by : ℕ → Option (ℕ × List ℕ) → ℕ
version_by low None = low
version_by low (Some n) = if n.0 == 0 then low else n.0

-- the entry of fields up to the key and the bytes after the key
abbrev pub entry_of : KtFormat → Front → List ℕ → EntryParts
entry_of f x tail = record {
  principal = x.principal;
  timestamp = x.timestamp;
  version = version_by x.low_version (number_at (order_of f) w32 tail);
  enctype = x.enctype;
  key = x.key;
}

-- the bytes spell the entry: its front, and then any tail
pub record Spells (f : KtFormat) (e : EntryParts) (bytes : List ℕ) : Type 0 where
  pub fields : Front
  pub tail : List ℕ
  pub fit : FitsFront f fields
  pub parts : bytes ≡ front f fields ++ tail
  pub entry : e ≡ entry_of f fields tail

-- ---- reading

-- the fields of an entry up to its key that bytes begin with, and the bytes after the key
unfoldable pub front_at : KtFormat → List ℕ → Option (Front × List ℕ)
front_at f bytes = do
  principal ← kt_principal_at f bytes
  timestamp ← number_at (order_of f) w32 principal.1
  version ← byte_at timestamp.1
  enctype ← number_at (order_of f) w16 version.1
  key ← data16_at (order_of f) enctype.1
  Some (record { principal = principal.0; timestamp = timestamp.0; low_version = version.0; enctype = enctype.0; key = key.0 }, key.1)

-- the entry that the bytes of a record begin with; `None` if they begin with none
unfoldable pub entry_at : KtFormat → List ℕ → Option EntryParts
entry_at f bytes = do
  x ← front_at f bytes
  Some (entry_of f x.0 x.1)
