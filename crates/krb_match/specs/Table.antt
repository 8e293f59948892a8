-- What is kept of the entries of a keytab, by the numbers of their names.
use Rattle.std.specs.Prelude.{◌≡◌, ⊤, ℕ, ◌<◌, ◌%◌, nat_lt, List, [], ◌∷◌, ◌++◌, filter, find, length, unwrap_or, Bool, true, nat_eq, not, ◌&&◌, ◌==◌, Option, None, Some, option_map, is_some, if◌then◌else◌}
use Rattle.std.specs.BTreeMap.{BTreeMap, get}
use Rattle.std.specs.List.{AllByRecursion, fold, list_any}
use Rattle.std.specs.Option.{option_cmp, option_eq}
use Rattle.std.specs.Ordering.{nat_cmp, ordering_then}
use Rattle.std.specs.declared.cmp.Ordering.{Ordering}
use Rattle.krb_wire.specs.Names.{have_same_name}
use Rattle.krb_wire.specs.Spelling.{Parts}
use Rattle.krb_keytab.specs.Find.{PlacedEntry}
use denote.Ref.{Bor}
use Rattle.krb_names.specs.Hash.{hash_of}
use Rattle.krb_names.specs.Set.{IsAlone, is_among}
use Rattle.krb_audit.specs.Newest.{is_newer}
use Rattle.krb_audit.specs.Rows.{stamp_of, stamped}
use Rattle.krb_audit.specs.declared.newest.Stamp.{Stamp}
use Rattle.krb_match.specs.declared.group.Group.{Group}
use Rattle.krb_match.specs.declared.fitting.Fitting.{Fitting}
use Rattle.krb_match.specs.declared.keys.Keys.{Keys}
use Rattle.krb_match.specs.Match.{fitting, has_name}
use Rattle.krb_match.specs.Names.{entry_key, name_key}

-- ---- groups of entries

-- a number is the one given, if one is
abbrev pub is_any : Option ℕ → ℕ → Bool
is_any None n = true
is_any (Some m) n = n == m

-- the entries of a name, and of a version and an enctype unless these are left out
abbrev pub is_of : Parts → Option ℕ → Option ℕ → PlacedEntry → Bool
is_of p version etype x = have_same_name p x.1.principal && (is_any version x.1.version && is_any etype x.1.enctype)

-- the stamp of the newest of entries, and the place and the enctype of the first of each enctype
abbrev pub GroupParts : Type 0
GroupParts = Stamp × List (ℕ × ℕ)

-- a group, without where its list is in memory
abbrev pub seen_group : {A : Type 0} → Group A → GroupParts
seen_group g = (g.newest, g.firsts.items)

-- the first ones of some entries, or none
abbrev pub firsts_of : Option GroupParts → List (ℕ × ℕ)
firsts_of None = []
firsts_of (Some g) = g.1

-- the newer of two stamps
abbrev pub newer : Stamp → Stamp → Stamp
newer newest later = if is_newer (stamped newest) (stamped later) then later else newest

-- the stamp of the newest once there is another entry
abbrev pub newest_with : Option GroupParts → Stamp → Stamp
newest_with None later = later
newest_with (Some g) later = newer g.0 later

-- the place and the enctype of an entry
abbrev pub first_of : PlacedEntry → ℕ × ℕ
first_of x = (x.0, x.1.enctype)

-- a group with one more entry, which may be the first of its enctype
abbrev pub grown : Bool → Option GroupParts → PlacedEntry → Option GroupParts
grown is_first g x = Some (newest_with g (stamp_of x.1), firsts_of g ++ (if is_first then first_of x ∷ [] else []))

-- a group with one more entry
abbrev pub with_entry : Option GroupParts → PlacedEntry → Option GroupParts
with_entry g x = grown (not (list_any (λ f. f.1 == x.1.enctype) (firsts_of g))) g x

-- ---- in a map

-- the number of a name, a version and an enctype, each of which may be left out
abbrev pub GroupKey : Type 0
GroupKey = ℕ × Option ℕ × Option ℕ

abbrev pub group_cmp : GroupKey → GroupKey → Ordering
group_cmp k l = ordering_then (ordering_then (nat_cmp k.0 l.0) (option_cmp nat_cmp k.1 l.1)) (option_cmp nat_cmp k.2 l.2)

-- the group that a map has for a key
abbrev pub group_in : {A : Type 0} → BTreeMap GroupKey (Group A) → GroupKey → Option GroupParts
group_in groups k = option_map seen_group (get group_cmp groups k)

-- two keys are the same
abbrev pub same_key : GroupKey → GroupKey → Bool
same_key k l = (k.0 == l.0 && option_eq nat_eq k.1 l.1) && option_eq nat_eq k.2 l.2

-- an entry that is added to a group is the first of its enctype, if that is not known: none was before
abbrev pub is_first_in : Option Bool → Option GroupParts → Bool
is_first_in known g = unwrap_or known (length (firsts_of g) == 0)

-- an entry was added to the group of a key
abbrev pub IsAdded : {A : Type 0} → GroupKey → Option Bool → PlacedEntry → BTreeMap GroupKey (Group A) → BTreeMap GroupKey (Group A) → Type 0
IsAdded key is_first x old new = (k : GroupKey) → group_in new k ≡ (if same_key key k then grown (is_first_in is_first (group_in old key)) (group_in old key) x else group_in old k)

-- an entry was noted in each of its groups, if its name has that number
abbrev pub IsNoted : {A : Type 0} → ℕ → PlacedEntry → BTreeMap GroupKey (Group A) → BTreeMap GroupKey (Group A) → Type 0
IsNoted number x old new = (k : GroupKey) → group_in new k ≡ (if number == k.0 && (is_any k.1 x.1.version && is_any k.2 x.1.enctype) then grown (is_first_in None (group_in old (k.0, k.1, Some x.1.enctype))) (group_in old k) x else group_in old k)

-- the hash of a name's key, a version and an enctype
abbrev pub ClassKey : Type 0
ClassKey = ℕ × ℕ × ℕ

abbrev pub class_cmp : ClassKey → ClassKey → Ordering
class_cmp k l = ordering_then (ordering_then (nat_cmp k.0 l.0) (nat_cmp k.1 l.1)) (nat_cmp k.2 l.2)

abbrev pub same_class : ClassKey → ClassKey → Bool
same_class k l = (k.0 == l.0 && k.1 == l.1) && k.2 == l.2

-- what a look-up of a name among names gave: its number is its place, of which there is one
pub record IsNumbered (names : List (List ℕ)) (p : Parts) (number : Option ℕ) : Type 0 where
  pub alone : IsAlone (name_key p) names number
  pub found : is_some number ≡ is_among names (name_key p)

-- the map has the groups of the entries so far
abbrev pub AreNoted : {A : Type 0} → List (List ℕ) → List PlacedEntry → BTreeMap GroupKey (Group A) → Type 0
AreNoted names before groups = (p : Parts) (i : ℕ) (version etype : Option ℕ) → IsNumbered names p (Some i) → group_in groups (i, version, etype) ≡ fold with_entry None (filter (is_of p version etype) before)

-- the place and the name's key that a map has for a class
abbrev pub placed_in : BTreeMap ClassKey (ℕ × Bor (List ℕ)) → ClassKey → Option (ℕ × List ℕ)
placed_in places k = option_map (λ v. (v.0, v.1.now)) (get class_cmp places k)

-- an entry has that hash, version and enctype
abbrev pub is_in : ClassKey → PlacedEntry → Bool
is_in k x = hash_of (entry_key x) == k.0 && (x.1.version == k.1 && x.1.enctype == k.2)

-- the map has the first of the entries so far that have a hash, a version and an enctype
abbrev pub ArePlaced : List PlacedEntry → BTreeMap ClassKey (ℕ × Bor (List ℕ)) → Type 0
ArePlaced before places = (k : ClassKey) → placed_in places k ≡ option_map (λ x. (x.0, entry_key x)) (find (is_in k) before)

-- ---- what fits a ticket

-- the versions that fit the one asked for
abbrev pub versions : Option ℕ → Option ℕ × Option ℕ × Option ℕ
versions None = (None, None, None)
versions (Some asked) = (Some asked, Some (asked % 256), Some 0)

-- the first of two entries, if there are any
abbrev pub earlier : Option (ℕ × ℕ) → Option (ℕ × ℕ) → Option (ℕ × ℕ)
earlier None other = other
earlier (Some x) None = Some x
earlier (Some x) (Some y) = if nat_lt y.0 x.0 then Some y else Some x

-- of each kind of enctype the first entry is the first one among three lists
abbrev pub AreUnited : List PlacedEntry → Fitting → Type 0
AreUnited xs f = (t : ℕ → Bool) → earlier (find (λ y. t y.1) f.one.now) (earlier (find (λ y. t y.1) f.two.now) (find (λ y. t y.1) f.three.now)) ≡ option_map first_of (find (λ x. t x.1.enctype) xs)

-- the entries of a name that fit, of an enctype unless that is left out
abbrev pub fitting_of : Option ℕ → Option ℕ → List PlacedEntry → List PlacedEntry
fitting_of asked etype xs = fitting asked (filter (λ x. is_any etype x.1.enctype) xs)

-- ---- all keys

-- a name has that number
abbrev pub HasNumber : {A : Type 0} → Keys A → Parts → ℕ → Type 0
HasNumber keys p i = IsNumbered keys.names p (Some i)

-- the places of entries ascend
abbrev pub Rises : List PlacedEntry → Type 0
Rises [] = ⊤
Rises (x ∷ xs) = AllByRecursion (λ y. x.0 < y.0) xs × Rises xs

-- the keys are those of entries
pub record AreKeys {A : Type 0} (xs : List PlacedEntry) (keys : Keys A) : Type 0 where
  pub names : (p : Parts) → is_among keys.names (name_key p) ≡ has_name p xs
  pub noted : AreNoted keys.names xs keys.groups
  pub rises : Rises xs
