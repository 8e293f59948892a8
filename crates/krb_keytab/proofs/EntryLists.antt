-- The entries listed cell by cell are those of the records.
use Rattle.krb_keytab.proofs.Cited.{◌≡◌, ◌∷◌, ℕ, ◌+◌, [], List, length, map, refl, sym, ap, append_assoc, ◌∙◌, Parts, is_some_has, filter_map, KtFormat, Record, standing, record_of, EntryParts, entry_at, Cell, Live, Free, KeytabState, store_cell, CellsFrom, BeginsWith, cells_of, IsFoundAmong, PlacedEntry, placed_entries, arith, Option, Some, None, Bool, false, ◌++◌, option_map}
use Rattle.krb_keytab.specs.Entries.{entries_in}

-- some entries were considered, and those of these cells are still to come
pub record IsFoundUpTo (name : Parts) (kvno enctype : ℕ) (k : KeytabState) (cells : CellsFrom) (named : Bool) (best : Option PlacedEntry) : Type 0 where
  pub before : List PlacedEntry
  pub found : IsFoundAmong name kvno enctype before named best
  pub all : before ++ entries_in cells.format cells.place cells.contents.cells ≡ placed_entries k

-- the entries of the records of a store's cells
abbrev record_entries : KtFormat → ℕ → List Cell → List PlacedEntry
record_entries f at cs = filter_map (λ (r : Record). option_map (λ (e : EntryParts). (r.place, e)) (entry_at f r.bytes)) (filter_map record_of (standing at (map store_cell cs)))

listed_stored : (f : KtFormat) (at : ℕ) (cs : List Cell) → entries_in f at cs ≡ record_entries f at cs
listed_stored f at [] = refl
listed_stored f at (Live b ∷ cs) = search (arith, listed_stored f (at + (4 + length b)) cs)
listed_stored f at (Free b ∷ cs) = listed_stored f (at + (4 + length b)) cs

-- those of the cells of a keytab are its entries
pub entries_of_cells : (k : KeytabState) (cells : CellsFrom) → cells ≡ cells_of k → entries_in cells.format cells.place cells.contents.cells ≡ placed_entries k
entries_of_cells k cells is = ap (λ (x : CellsFrom). entries_in x.format x.place x.contents.cells) is ∙ listed_stored k.format 2 k.contents.cells

-- ---- considered one after the other

pub listed_live : (old new : CellsFrom) (at : ℕ) (b : List ℕ) (e : EntryParts) → BeginsWith old at (Live b) new → entry_at old.format b ≡ Some e → entries_in old.format old.place old.contents.cells ≡ (at, e) ∷ entries_in new.format new.place new.contents.cells
listed_live old new at b e s is = search arith

pub none_considered : (name : Parts) (kvno enctype : ℕ) (k : KeytabState) (cells : CellsFrom) → cells ≡ cells_of k → IsFoundUpTo name kvno enctype k cells false None
none_considered name kvno enctype k cells is = record { before = []; found = refl; all = entries_of_cells k cells is }

pub live_considered : (name : Parts) (kvno enctype : ℕ) (k : KeytabState) (old new : CellsFrom) (at : ℕ) (b : List ℕ) (named named' : Bool) (best best' : Option PlacedEntry) → BeginsWith old at (Live b) new → IsFoundUpTo name kvno enctype k old named best
    → ((xs : List PlacedEntry) (e : EntryParts) → entry_at old.format b ≡ Some e → IsFoundAmong name kvno enctype xs named best → IsFoundAmong name kvno enctype (xs ++ (at, e) ∷ []) named' best') → IsFoundUpTo name kvno enctype k new named' best'
live_considered name kvno enctype k old new at b named named' best best' s l considers =
    let e = is_some_has (entry_at old.format b) s.sound.2 in
    record {
      before = l.before ++ (at, e.0) ∷ [];
      found = considers l.before e.0 e.1 l.found;
      all = append_assoc l.before ((at, e.0) ∷ []) (entries_in new.format new.place new.contents.cells) ∙ ap (λ (xs : List PlacedEntry). l.before ++ xs) (sym (listed_live old new at b e.0 s e.1)) ∙ l.all;
    }
