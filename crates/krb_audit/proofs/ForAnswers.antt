-- The names that answers cite most, passed on from one place. Declares nothing.
pub use Rattle.krb_audit.proofs.Cited.{Alike, at_number, AreRows, fold, get_or, length-set, length-map, length-replicate, take_more, numbered_rows, rank_row, shown_rank, mapped_after, rank_of, RankParts, AreMarked, AreNewest, AreNumbered, AreStrong, AreVersions, AreYoung, BeginsWith, Bool, CellsFrom, EntryParts, Free, IsMissing, Key, KtCell, KtFormat, List, Names, None, Beyond, Option, PlacedEntry, Some, [], ap, append_assoc, ap₂, arith, cell_of, clashes, cond, ends_mit, entries_in, entries_of_cells, entry_at, false, first_alike, first_number, fold, has_selected_kvno, holes, is_aged, is_among, is_named, is_some_has, length, length_push, list_any, listed_live, looked, map, name_text, not, option_map, placed_entries, refl, repeats, replicate, rules, same_key, selects_row, size, some_is, subst, sum_by, sym, take, take_all, vec_items, with_if, ℕ, ◌&&◌, ◌++◌, ◌+◌, ◌||◌, ◌∙◌, ◌∷◌, ◌≡◌}
pub use Rattle.krb_audit.proofs.CountsLemmas.{added, added_ge, hole_added, hole_counted, holes_few, holes_small}
pub use Rattle.krb_audit.proofs.FindingsLemmas.{IsCheckedUpTo, ended_here}
pub use Rattle.krb_audit.proofs.StandingLemmas.{are_selected, are_strong, are_young}
pub use Rattle.krb_audit.proofs.RankLemmas.{next_ranked, ranked}
pub use Rattle.krb_audit.proofs.MissingLemmas.{AreTaken, next_among, next_text, seen_in, seen_next, seen_or, taken_next}
pub use Rattle.krb_audit.proofs.NewestStamps.{are_newest}
pub use Rattle.krb_audit.proofs.Numbering.{all_numbered, none_numbered, numbered_next}
pub use Rattle.krb_audit.proofs.RowLemmas.{get_or_none, one_stepped}
pub use Rattle.krb_audit.proofs.SelectedLemmas.{IsOnTheWay, one_further}
