-- The lines of entries that have places.
use Rattle.krb_keytab_text.proofs.Cited.{arith, ◌≡◌, ℕ, List, [], ◌∷◌, refl, option_map, flat_map, filter_map, EntryParts, entry_at, entry_line, entry_lines}
use Rattle.krb_wire.specs.declared.format.KtFormat.{KtFormat}
use Rattle.krb_walk.specs.Store.{Record, records}
use Rattle.krb_keytab.specs.Store.{KeytabState, store_of}
use Rattle.krb_keytab.specs.Find.{PlacedEntry, placed_entries}
use Rattle.krb_keytab_text.specs.declared.columns.KtColumns.{KtColumns}

-- the lines of some entries
abbrev pub lines_of : KtColumns → List PlacedEntry → List ℕ
lines_of columns xs = flat_map (λ x. entry_line columns x.1) xs

-- the places are not part of the lines
lines_placed : (columns : KtColumns) (f : KtFormat) (rs : List Record) → lines_of columns (filter_map (λ (r : Record). option_map (λ (e : EntryParts). (r.place, e)) (entry_at f r.bytes)) rs) ≡ flat_map (entry_line columns) (filter_map (λ (r : Record). entry_at f r.bytes) rs)
lines_placed columns f [] = refl
lines_placed columns f (r ∷ rs) = grind (arith, lines_placed columns f rs)

-- the lines of all entries
pub all_lines : (columns : KtColumns) (k : KeytabState) → lines_of columns (placed_entries k) ≡ entry_lines columns k
all_lines columns k = lines_placed columns k.format (records (store_of k))
