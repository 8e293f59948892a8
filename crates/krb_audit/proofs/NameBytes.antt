-- The bytes that encode a name without its type determine the name.
use Rattle.krb_audit.proofs.Cited.{◌≡◌, arith, ℕ, ◌+◌, List, [], ◌++◌, length, take, Some, None, sym, ap, ◌∙◌, append_assoc, bytes_eq, KtFormat, Parts, have_same_name, some_is, EntryParts, kt_name, length-append, take_at, name_type_field, kt_principal, FitsKt, wide32, Spells, type_len, bytes_eq-Decides, same_name_is}
use Rattle.krb_wire.specs.declared.format.Order.TheVariants.{Big}
use Rattle.krb_wire.specs.Reading.{kt_principal_at}
use Rattle.krb_wire.proofs.Principals.{kt_principal_again}

-- a name is encoded by these bytes and its type
with_type : (f : KtFormat) (p : Parts) → kt_principal f p ≡ kt_name f p ++ name_type_field f p.name_type
with_type f p = simp append_assoc

type_length : (f : KtFormat) (t : ℕ) → length (name_type_field f t) ≡ type_len f
type_length f t = grind (arith, (wide32 Big).len t)

-- ---- read

-- a record's bytes begin with its name
pub record Opens (f : KtFormat) (bytes : List ℕ) (p : Parts) : Type 0 where
  pub rest : List ℕ
  pub read : kt_principal_at f bytes ≡ Some (p, rest)
  pub parts : bytes ≡ kt_name f p ++ (name_type_field f p.name_type ++ rest)
  pub fits : FitsKt f p

pub opens : (f : KtFormat) (e : EntryParts) (bytes : List ℕ) → Spells f e bytes → Opens f bytes e.principal
opens f e bytes s = search (arith, with_type, append_assoc, kt_principal_again)

pub is_read : (f : KtFormat) (e : EntryParts) (bytes : List ℕ) → Spells f e bytes → kt_principal_at f bytes ≡ None → ⊥
is_read f e bytes s none = grind (arith, none, (opens f e bytes s).read)

-- the lengths of a record's parts add up
pub lengths : (f : KtFormat) (e : EntryParts) (bytes : List ℕ) (p : Parts) (rest : List ℕ) → Spells f e bytes → kt_principal_at f bytes ≡ Some (p, rest) → length bytes ≡ length (kt_name f e.principal) + (type_len f + length rest)
lengths f e bytes p rest s read =
    let o : Opens f bytes e.principal = opens f e bytes s in
    let found : Parts × List ℕ = (e.principal, o.rest) in
    let given : Parts × List ℕ = (p, rest) in
    let same : found ≡ given = some_is found given (sym o.read ∙ read) in
    let rest_is : length o.rest ≡ length rest = ap (λ (x : Parts × List ℕ). length x.1) same in
    omega (arith, ap length o.parts, rest_is, length-append (kt_name f e.principal) (name_type_field f e.principal.name_type ++ o.rest), length-append (name_type_field f e.principal.name_type) o.rest, type_length f e.principal.name_type)

-- the bytes before the type are those of the name
pub name_taken : (f : KtFormat) (e : EntryParts) (bytes : List ℕ) (n : ℕ) → Spells f e bytes → n ≡ length (kt_name f e.principal) → take n bytes ≡ kt_name f e.principal
name_taken f e bytes n s is =
    let o = opens f e bytes s in
    ap (take n) o.parts ∙ take_at (kt_name f e.principal) (name_type_field f e.principal.name_type ++ o.rest) n (sym is)

-- ---- distinct

-- the name without its type
abbrev untyped : Parts → Parts
untyped p = record { name_type = 0; realm = p.realm; components = p.components }

read_again : (f : KtFormat) (p : Parts) → FitsKt f p → kt_principal_at f ((kt_name f p ++ name_type_field f 0) ++ []) ≡ Some (untyped p, [])
read_again f p fits = ap (λ (b : List ℕ). kt_principal_at f (b ++ [])) (sym (with_type f (untyped p))) ∙ kt_principal_again f (untyped p) [] (record { lengths = fits.lengths; name_type = search arith })

same_untyped : (f : KtFormat) (p q : Parts) → FitsKt f p → FitsKt f q → kt_name f p ≡ kt_name f q → untyped p ≡ untyped q
same_untyped f p q fp fq e = grind (arith, e, read_again f p fp, read_again f q fq)

-- two names are the same iff these bytes are equal
pub same_bytes : (f : KtFormat) (p q : Parts) → FitsKt f p → FitsKt f q → bytes_eq (kt_name f p) (kt_name f q) ≡ have_same_name p q
same_bytes f p q fp fq = same_name_is p q (bytes_eq (kt_name f p) (kt_name f q))
    (λ e. let is = same_untyped f p q fp fq ((bytes_eq-Decides (kt_name f p) (kt_name f q)).0 e) in (ap (λ (x : Parts). x.realm) is, ap (λ (x : Parts). x.components) is))
    (λ realm components. (bytes_eq-Decides (kt_name f p) (kt_name f q)).1 (grind (arith, realm, components)))
