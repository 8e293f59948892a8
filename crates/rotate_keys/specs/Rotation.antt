-- The rotation of a name's keys.
use Rattle.std.specs.Prelude.{ℕ, List, [], ◌∷◌, Bool, ◌&&◌, nat_lt, map, filter, Result, Ok, Err}
use Rattle.krb_wire.specs.Spelling.{Parts}
use Rattle.krb_wire.specs.Names.{have_same_name}
use Rattle.krb_walk.specs.declared.refusal.Code.{Code}
use Rattle.krb_keytab.specs.Changes.{cut_result, put_result}
use Rattle.krb_keytab.specs.Entry.{EntryParts}
use Rattle.krb_keytab.specs.Find.{PlacedEntry, placed_entries}
use Rattle.krb_keytab.specs.Store.{KeytabState}

-- an entry has this name, and a version before this one
abbrev pub is_before : Parts → ℕ → PlacedEntry → Bool
is_before name kvno x = nat_lt x.1.version kvno && have_same_name name x.1.principal

-- the places of such entries, in file order
abbrev pub places_before : Parts → ℕ → KeytabState → List ℕ
places_before name kvno k = map (λ x. x.0) (filter (is_before name kvno) (placed_entries k))

-- the keytab after the removal of the records at those places, one after the other, or the first refusal
abbrev pub without : List ℕ → Result KeytabState Code → Result KeytabState Code
without [] k = k
without (p ∷ ps) (Ok k) = without ps (cut_result k p)
without (p ∷ ps) (Err refused) = Err refused

-- an addition, if nothing was refused before
abbrev pub with_new : EntryParts → Result KeytabState Code → Result (ℕ × KeytabState) Code
with_new e (Ok k) = put_result k e
with_new e (Err refused) = Err refused

-- an addition after the removal of the older entries of its name: its place, and the keytab
abbrev pub rotation : EntryParts → ℕ → KeytabState → Result (ℕ × KeytabState) Code
rotation e oldest k = with_new e (without (places_before e.principal oldest k) (Ok k))
