-- Laws of the definitions.
use Rattle.std.specs.Prelude.{◌≡◌, ℕ, ◌+◌, List, [], get_or, length, filter, map, true, false, Option, None, Some}
use Rattle.std.specs.List.{Contains}
use Rattle.krb_wire.specs.Spelling.{Parts}
use Rattle.krb_wire.specs.Names.{have_same_name}
use Rattle.krb_keytab.specs.Entry.{EntryParts}
use Rattle.krb_keytab.specs.Find.{PlacedEntry}
use Rattle.krb_keytab.specs.Store.{KeytabState}
use Rattle.krb_findings.specs.declared.finding.Finding.{Finding}
use Rattle.krb_findings.specs.Table.{has}
use Rattle.krb_audit.specs.CheckUp.{checked}
use Rattle.krb_audit.specs.Findings.{CheckAsked, found_count, is_weak_among, weak_among}
use Rattle.krb_audit.specs.Newest.{newest, is_old}
use Rattle.krb_audit.specs.Selection.{SelectionParts, has_selected_kvno, selected_in}
use Rattle.krb_audit.specs.declared.selection.SelectedKvno.TheVariants.{Any, Beyond}
use Rattle.krb_findings.specs.declared.finding.Finding.TheVariants.{Same}
use Rattle.krb_names.specs.Asked.{nothing_asked as any_names}

-- the entry is one of the entries, at some place, and has that name
abbrev pub HasEntry : List PlacedEntry → Parts → EntryParts → Type 0
HasEntry xs name e = (place : ℕ) × Contains xs (place, e) × (have_same_name name e.principal ≡ true)

-- the newest entry of a name is one of its entries
abbrev pub IsOfItsName : Type 0
IsOfItsName = (name : Parts) (xs : List PlacedEntry) (e : EntryParts) → newest name xs ≡ Some e → HasEntry xs name e

-- each entry's name has an entry that is not old
abbrev pub KeepsEachName : Type 0
KeepsEachName = (xs : List PlacedEntry) (x : PlacedEntry) → Contains xs x → (e : EntryParts) × HasEntry xs x.1.principal e × (is_old xs e ≡ false)

-- of any number it is found whether it is a weak enctype that one of the entries has
abbrev pub AreAllWeak : Type 0
AreAllWeak = (xs : List PlacedEntry) (etype : ℕ) → get_or (weak_among xs).found etype false ≡ is_weak_among xs etype

-- the entries of which a check has a finding are as many as have it
abbrev pub CountsFindings : Finding → Type 0
CountsFindings finding = (mode : Option ℕ) (asked : CheckAsked) (k : KeytabState) → length (filter (λ m. has m.1.findings finding) (checked mode asked k).entries) ≡ found_count k finding

-- what is beyond one kvno of its name is what is old
abbrev pub OneIsKept : Type 0
OneIsKept = (now : ℕ) (xs : List PlacedEntry) (e : EntryParts) → has_selected_kvno (Beyond 1 None) now xs e ≡ is_old xs e

-- what is beyond more kvnos is beyond fewer
abbrev pub MoreAreKept : Type 0
MoreAreKept = (keep now : ℕ) (xs : List PlacedEntry) (e : EntryParts) → has_selected_kvno (Beyond (keep + 1) None) now xs e ≡ true → has_selected_kvno (Beyond keep None) now xs e ≡ true

-- only entries that repeat an earlier one are selected
abbrev pub only_same_ones : SelectionParts
only_same_ones = record { names = any_names; kvno = Any; enctypes = []; only_same = true }

-- the entries that repeat an earlier one are those for which a check has the finding `Same`
abbrev pub SelectsSame : Type 0
SelectsSame = (mode : Option ℕ) (asked : CheckAsked) (now : ℕ) (k : KeytabState) → selected_in only_same_ones now k ≡ map (λ m. m.0) (filter (λ m. has m.1.findings Same) (checked mode asked k).entries)
