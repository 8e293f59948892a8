-- Which entry opens a ticket, by the definitions of ktmatch, and what C is returned if none does.
use Rattle.std.specs.Prelude.{◌≡◌, ◌==◌, ℕ, ℤ, List, Bool, filter, Option, None, Some, Result, if◌then◌else◌}
use Rattle.std.specs.List.{list_any}
use Rattle.krb_wire.specs.Spelling.{Parts}
use Rattle.krb_wire.specs.declared.name_fault.NameFault.{NameFault}
use Rattle.krb_keytab.specs.Find.{PlacedEntry, placed_entries}
use Rattle.krb_keytab.specs.Store.{KeytabState}
use Rattle.krb_match.specs.Match.{asked_version, entry_etype, fits, named, opener}
use Rattle.krb_c.specs.declared.keytab.looks.KrbfEntry.{KrbfEntry}
use Rattle.krb_c.specs.KeytabLooks.{Shows}
use Rattle.krb_c.specs.Text.{ByName}

-- an entry has a version that fits
abbrev pub has_fitting : Option ℕ → List PlacedEntry → Bool
has_fitting asked xs = list_any (λ x. fits asked x.1.version) xs

-- the status if no entry of a name opens a ticket: 43, none that fits has the enctype; 40, none fits; 39, there is none
abbrev pub why_none : Option ℕ → List PlacedEntry → ℕ
why_none asked xs = if has_fitting asked xs then 43 else if has_fitting None xs then 40 else 39

-- an entry of a name is shown, or the status says why none opens the ticket
abbrev pub ShowsOpener : Option ℕ → List PlacedEntry → Option PlacedEntry → ℕ → KrbfEntry → KrbfEntry → Type 0
ShowsOpener asked xs (Some x) status seen new_seen = (status ≡ 0) × Shows new_seen x.0 x.1
ShowsOpener asked xs None status seen new_seen = (status ≡ why_none asked xs) × (new_seen ≡ seen)

-- the entry that opens a ticket of a kvno, 0 if it asks for none, and an enctype, for the server that a text names
unfoldable pub OpensNamed : KeytabState → Result Parts NameFault → ℕ → ℤ → ℕ → KrbfEntry → KrbfEntry → Type 0
OpensNamed k server kvno etype status entry new_entry =
    let asked : Option ℕ = asked_version (Some kvno) in
    ByName (λ name. ShowsOpener asked (named name (placed_entries k)) (opener asked (entry_etype etype) (named name (placed_entries k))) status entry new_entry) (λ why. (status ≡ why) × (new_entry ≡ entry)) server

-- the entries of a name and an enctype
abbrev pub keyed : Parts → ℕ → List PlacedEntry → List PlacedEntry
keyed name etype xs = filter (λ x. x.1.enctype == etype) (named name xs)
