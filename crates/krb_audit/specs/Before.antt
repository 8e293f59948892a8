-- What is known before an entry of a keytab: the first entry of each name, kvno and enctype, in a map, and more.
use Rattle.std.specs.Prelude.{◌≡◌, List, ◌++◌, ℕ, find, map, Bool, false, true, ◌&&◌, ◌==◌, Option, Some, option_map}
use Rattle.std.specs.List.{list_any}
use Rattle.krb_names.specs.Marks.{AreMarked}
use Rattle.krb_keytab.specs.Find.{PlacedEntry, placed_entries}
use Rattle.krb_keytab.specs.Store.{KeytabState}
use Rattle.krb_audit.specs.declared.doubles.Doubles.{Doubles}
use Rattle.krb_audit.specs.declared.doubles.SeenKeys.{SeenKeys}
use Rattle.krb_audit.specs.declared.doubles.Doubles.TheVariants.{Each, Repeated}
use Rattle.krb_audit.specs.declared.findings.Before.{Before}
use Rattle.krb_audit.specs.declared.missing.Missing.{Missing}
use Rattle.krb_audit.specs.CheckUp.{prints_as}
use Rattle.krb_audit.specs.Findings.{ends_mit, weak_among, is_alike}
use Rattle.krb_audit.specs.Rows.{first_number}
use Rattle.krb_audit.specs.Ranks.{mapped_after, rank_of}
use Rattle.std.specs.BTreeMap.{get}
use Rattle.std.specs.declared.cmp.Ordering.{Ordering}
use Rattle.std.specs.declared.cmp.Reverse.{Reverse}
use Rattle.std.specs.Ordering.{nat_cmp, ordering_then}
use Rattle.krb_audit.specs.declared.firsts.Firsts.{Firsts}

-- a name, as the number of its first entry, a kvno and an enctype
abbrev pub Key : Type 0
Key = Reverse ℕ × ℕ × ℕ

-- two keys are the same
abbrev pub same_key : Key → Key → Bool
same_key k l = (k.0.0 == l.0.0 && k.1 == l.1) && k.2 == l.2

-- the order of keys: numbers fall
abbrev pub key_cmp : Key → Key → Ordering
key_cmp k l = ordering_then (ordering_then (nat_cmp l.0.0 k.0.0) (nat_cmp k.1 l.1)) (nat_cmp k.2 l.2)

-- the place and the secret key that the map has for a key
abbrev pub looked : {A : Type 0} → Firsts A → Key → Option (ℕ × List ℕ)
looked firsts k = option_map (λ v. (v.0, v.1.now)) (get key_cmp firsts.map k)

-- for the key of each entry, the place and the secret key of the first entry among `xs` that is alike
abbrev pub AreFirsts : List PlacedEntry → List PlacedEntry → (Key → Option (ℕ × List ℕ)) → Type 0
AreFirsts all xs look = (x : PlacedEntry) (i : ℕ) → first_number x.1.principal all ≡ Some i → look (record { 0 = i }, x.1.version, x.1.enctype) ≡ option_map (λ y. (y.0, y.1.key)) (find (is_alike x) xs)

-- it can be found which of the entries `rest` repeat an earlier one
pub record AreSeenKeys {A : Type 0} (all before rest : List PlacedEntry) (seen : SeenKeys A) : Type 0 where
  pub ranks : seen.ranks ≡ mapped_after (rank_of all) before rest
  pub firsts : AreFirsts all before (looked seen.firsts)

-- the doubles of the entries `rest` can be found, if they are asked for
abbrev pub AreDoubles : {A : Type 0} → Bool → List PlacedEntry → List PlacedEntry → List PlacedEntry → Doubles A → Type 0
AreDoubles only_same all before rest Each = only_same ≡ false
AreDoubles only_same all before rest (Repeated seen) = (only_same ≡ true) × AreSeenKeys all before rest seen

-- these are the wanted texts, and those that some name of the entries `before` prints as are marked
abbrev pub IsMissing : {A : Type 0} → List (List ℕ) → List PlacedEntry → Missing A → Type 0
IsMissing wanted before m = AreMarked (λ text. list_any (prints_as text) before) wanted m.wanted

-- what is known of a keytab between the entries `before` and the entries `rest`
pub record IsBefore {A : Type 0} (k : KeytabState) (wanted : List (List ℕ)) (before rest : List PlacedEntry) (b : Before A) : Type 0 where
  pub all : placed_entries k ≡ before ++ rest
  pub ranks : b.ranks ≡ mapped_after (rank_of (placed_entries k)) before rest
  pub firsts : AreFirsts (placed_entries k) before (looked b.firsts)
  pub missing : IsMissing wanted before b.missing
  pub has_ended : b.has_ended ≡ list_any (λ x. ends_mit x.1) before
  pub weak_etypes : b.weak_etypes ≡ weak_among before
