-- What the keytab has of each class of twins during a run.
use Rattle.std.specs.Prelude.{◌≡◌, ℕ, ◌+◌, ◌*◌, ◌/◌, ◌<◌, List, [], ◌∷◌, length, map, Bool, false, ◌==◌, ◌&&◌, not, Option, Some, None, if◌then◌else◌}
use Rattle.std.specs.List.{list_any}
use Rattle.std.specs.Str.{bytes_eq}
use Rattle.std.specs.Ordering.{nat_cmp}
use Rattle.std.specs.Cmp.Lexicographic.{slice_cmp}
use Rattle.std.specs.BTreeMap.{BTreeMap, get}
use Rattle.std.specs.BTreeSet.{BTreeSet, contains_by}
use denote.Ref.{Bor}
use Rattle.krb_wire.specs.Spelling.{Parts}
use Rattle.krb_wire.specs.Names.{name_text}
use Rattle.krb_keytab.specs.Entry.{EntryParts}
use Rattle.krb_names.specs.Hash.{hash_of, name_cmp}
use Rattle.krb_copy.specs.Copying.{Held, twins, is_kept, Step, There, Clash, Copy}
use Rattle.krb_copy.specs.declared.class.Class.{Class}
use Rattle.krb_copy.specs.declared.class.Class.TheVariants.{Empty, One, More}
use Rattle.krb_copy.specs.declared.class.Step.{Step as StepOf}
use Rattle.krb_copy.specs.declared.class.Step.TheVariants as step

-- ---- one class

-- a set has a key
abbrev pub has_among : BTreeSet (Bor (List ℕ)) → List ℕ → Bool
has_among keys key = contains_by (λ k. slice_cmp nat_cmp key k.now) keys

-- the places of its entries, in order
abbrev pub places_of : {A : Type 0} → Class A → List ℕ
places_of Empty = []
places_of (One place key kept) = place ∷ []
places_of (More many) = many.value.places.items

-- one of them has a key
abbrev pub has_key : {A : Type 0} → Class A → List ℕ → Bool
has_key Empty key = false
has_key (One place first kept) key = bytes_eq key first.now
has_key (More many) key = has_among many.value.keys key

-- one of them stays
abbrev pub stays : {A : Type 0} → Class A → Bool
stays Empty = false
stays (One place key kept) = kept
stays (More many) = many.value.stays

-- `class` has the places and the keys of `held`, and whether one stays
pub record IsClass {A : Type 0} (before : List EntryParts) (held : List Held) (class : Class A) : Type 0 where
  pub places : places_of class ≡ map (λ h. h.place) held
  pub keys : (key : List ℕ) → has_key class key ≡ list_any (λ h. bytes_eq key h.entry.key) held
  pub kept : stays class ≡ list_any (is_kept before) held

-- entries have a class iff there are any
abbrev pub HaveClass : {A : Type 0} → List EntryParts → List Held → Option (Class A) → Type 0
HaveClass before held None = held ≡ []
HaveClass before held (Some class) = IsClass before held class

-- ---- all classes

-- a number, and the text of a name
abbrev pub ClassKey : Type 0
ClassKey = ℕ × Bor (List ℕ)

-- 1 if a name has no components
abbrev pub emptiness : Parts → ℕ
emptiness p = if length p.components == 0 then 1 else 0

-- an entry's version, its enctype of 16 bits, and whether its name has no components, as one number
abbrev pub kind_of : EntryParts → ℕ
kind_of x = (x.version * 65536 + x.enctype) * 2 + emptiness x.principal

-- it is that of an entry: the number is a hash of the text and the kind
pub record IsClassKey (x : EntryParts) (k : ClassKey) : Type 0 where
  pub number : k.0 ≡ hash_of (name_text x.principal) / 32768 + kind_of x
  pub small : x.enctype < 65536
  pub name : k.1.now ≡ name_text x.principal

-- the twins of each entry have their class, after these were asked for
abbrev pub AreClasses : {A : Type 0} → List EntryParts → List Held → BTreeMap ClassKey (Class A) → Type 0
AreClasses before held classes = (x : EntryParts) (k : ClassKey) → IsClassKey x k → HaveClass before (twins x held) (get name_cmp classes k)

-- the step of an entry whose key none of its twins has, by whether one of these stays, and their places
abbrev pub step_at : Bool → Bool → List ℕ → Step
step_at replace stays [] = Copy []
step_at replace stays (p ∷ ps) = if replace && not stays then Copy (p ∷ ps) else Clash p

-- a step, without where its places are in memory
abbrev pub seen_step : StepOf → Step
seen_step step.There = There
seen_step (step.Clash twin) = Clash twin
seen_step (step.Copy places) = Copy places.now
