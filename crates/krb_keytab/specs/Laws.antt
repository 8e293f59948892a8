-- Laws of the definitions.
use Rattle.std.specs.Prelude.{◌≡◌, ℕ, ◌<◌, List, [], ◌++◌, map, replicate, get_or, IsTrue, Some, None, Ok}
use Rattle.std.specs.List.{flat_map, AllByRecursion}
use Rattle.krb_wire.specs.declared.format.KtFormat.{KtFormat}
use Rattle.krb_wire.specs.Spelling.{order_of}
use Rattle.krb_keytab.specs.Entry.{EntryParts, Spells}
use Rattle.krb_keytab.specs.Form.{fits, written_form, read_back, IsEntry}
use Rattle.krb_walk.specs.declared.event.Event.TheVariants.{Cut}
use Rattle.krb_walk.specs.Store.{live_bytes}
use Rattle.krb_walk.specs.History.{history, replies}
use Rattle.krb_walk.specs.Ran.{Ran}
use Rattle.krb_keytab.specs.Store.{KeytabState, image_of, store_of, entries, entry_at_place}
use Rattle.krb_keytab.specs.Changes.{put_result, cut_result, without}
use Rattle.krb_keytab.specs.Rewrite.{keytab_rules, rewrite_result}
use Rattle.krb_keytab.specs.Cells.{Cell, Contents, cell, spelling, contents, IsCell, IsSound, IsSpelled}

-- numbers below 256
abbrev pub AreBytes : List ℕ → Type 0
AreBytes bytes = (i : ℕ) → get_or bytes i 0 < 256

-- any bytes are what their contents spell
abbrev pub IsAlwaysSpelled : Type 0
IsAlwaysSpelled = (f : KtFormat) (bytes : List ℕ) → AreBytes bytes → IsSpelled f bytes (contents f bytes)

-- sound cells whose spelling is a prefix of the bytes are the first cells: no list of cells is longer
abbrev pub IsLongest : Type 0
IsLongest = (f : KtFormat) (cells : List Cell) (rest : List ℕ) → AllByRecursion (IsCell f) cells → AreBytes (flat_map (cell (order_of f)) cells ++ rest)
    → contents f (flat_map (cell (order_of f)) cells ++ rest) ≡ record { cells = cells ++ (contents f rest).cells; end = (contents f rest).end }

-- sound contents are the only ones with their spelling
abbrev pub IsOnlyOne : Type 0
IsOnlyOne = (f : KtFormat) (k : Contents) → IsSound f k → AreBytes (spelling (order_of f) k) → contents f (spelling (order_of f) k) ≡ k

-- the written form of an entry, also with zeros after it, spells that entry and no other; in version 1 its name type is 0
pub record IsReadBack (f : KtFormat) (e : EntryParts) (bytes : List ℕ) : Type 0 where
  pub spelled : Spells f (read_back f e) bytes
  pub only : (x : EntryParts) → Spells f x bytes → x ≡ read_back f e

-- this holds of each entry whose numbers fit their types and whose lengths and counts fit their fields
abbrev pub IsAlwaysReadBack : Type 0
IsAlwaysReadBack = (f : KtFormat) (e : EntryParts) (zeros : ℕ) → IsEntry e → IsTrue (fits f e) → IsReadBack f e (written_form f e ++ replicate zeros 0)

-- the entry that was added is read back at the place that the addition returns
abbrev pub IsReadWhereAdded : Type 0
IsReadWhereAdded = (k : KeytabState) (e : EntryParts) (given : ℕ × KeytabState) → IsEntry e → put_result k e ≡ Ok given → entry_at_place given.1 given.0 ≡ Some (read_back k.format e)

-- where a record was removed, none is left
abbrev pub IsGoneWhereRemoved : Type 0
IsGoneWhereRemoved = (k : KeytabState) (place : ℕ) (new : KeytabState) → cut_result k place ≡ Ok new → live_bytes (store_of new) place ≡ None

-- a rewritten keytab has the same entries, in the same order
abbrev pub IsKeptByRewrites : Type 0
IsKeptByRewrites = (k new : KeytabState) → AreBytes (image_of k) → rewrite_result k ≡ Ok new → entries new ≡ entries k

-- the removal of records is a run of the events `Cut` in a session without walks
abbrev pub AreRuns : Type 0
AreRuns = (k : KeytabState) (places : List ℕ) → Ran keytab_rules (record { store = k; cursors = [] }) (record { store = without k places; cursors = [] }) (map Cut places) []
    (replies (history keytab_rules (record { store = k; cursors = [] }) (map Cut places)))
