-- The entries of cells, in order.
use Rattle.std.specs.Prelude.{ℕ, List, Option, option_map}
use Rattle.std.specs.List.{filter_map}
use Rattle.krb_wire.specs.declared.format.KtFormat.{KtFormat}
use Rattle.krb_wire.specs.Reading.{◌>>=◌}
use Rattle.krb_keytab.specs.Entry.{entry_at}
use Rattle.krb_keytab.specs.Cells.{Cell}
use Rattle.krb_keytab.specs.Store.{store_cell}
use Rattle.krb_keytab.specs.Changes.{PlacedCell, placed_cells}
use Rattle.krb_keytab.specs.Find.{PlacedEntry}

-- the entry of a cell, if it is live, with its place
abbrev pub entry_in : KtFormat → PlacedCell → Option PlacedEntry
entry_in f x = option_map (λ e. (x.0, e)) ((store_cell x.1).live >>= entry_at f)

-- the entries of cells that start at a place
abbrev pub entries_in : KtFormat → ℕ → List Cell → List PlacedEntry
entries_in f at cells = filter_map (entry_in f) (placed_cells at cells)
