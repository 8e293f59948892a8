-- The names that the proofs cite most, passed on from one place. Declares nothing.
pub use Rattle.std.proofs.Common.{◌≡◌, ◌∙◌, sym, ap, List, ◌∷◌, arith, ℕ, [], refl, subst, Bool, false, length, Some, map, Option, cond, true, None, ◌++◌, ◌+◌, replicate, take, append_assoc, get_or, ◌≤◌, inl, ◌==◌, inr, set, ◌-◌, ◌%◌, drop, suc, append-nil, ◌≢◌, ◌/◌, zero, ◌<◌, ◌⊎◌, rules, ap₂}
pub use Rattle.std.proofs.Math.Bool.{or-false}
pub use Rattle.std.proofs.lemmas.Bool.{eq-eqb, eqb-true, cases_lt, ne_eqb, ltb-true, true≢false}
pub use Rattle.std.proofs.lemmas.Cmp.{on_equiv, and_equiv, lists_equiv, nat_cmp_total, nat_list_eq_equiv, nat_eq_equiv, tied_itself}
pub use Rattle.std.proofs.lemmas.List.{take_all, get_or-set_same, length-set, get_or-set_other, get_or_past, length-map, length-append, map_push, take_at, length-replicate, get_or-replicate, length_push, flat_map_more, take_more, get_or-map}
pub use Rattle.std.proofs.lemmas.List.Folds.{list_any-append, find-append, list_any_at}
pub use Rattle.std.specs.List.{fold, list_any, All, sum_by, flat_map, AllByRecursion, range_with_len, Contains, filter_map}
pub use Rattle.std.specs.Option.{option_or, option_map_or, MatchOption}
pub use Rattle.std.specs.Prelude.{◌||◌, ◌&&◌, not, ◌==◌, filter, option_map, find, unwrap_or, nat_lt, Vec}
pub use Rattle.std.specs.Str.{bytes_eq}
pub use Rattle.std.specs.Vec.{vec_items}
pub use Rattle.krb_audit.specs.Findings.{is_alike, ends_mit, as_alike, marks_of, is_out, first_hidden, hidden_from, CheckAsked, Marked, reported, first_alike, clashes, is_aged, repeats}
pub use Rattle.krb_audit.specs.Standings.{AreNewest, AreStrong, selects_row, is_old_row, AreYoung, is_strong_row, is_young_row, numbered_rows, rank_row}
pub use Rattle.krb_audit.specs.Ranks.{RankParts, is_first, is_strong_of, mapped_after, newest_kvno, rank_of, shown_rank}
pub use Rattle.krb_audit.specs.Versions.{AreVersions}
pub use Rattle.krb_audit.specs.ByName.{HasPlace, at_number, stepped}
pub use Rattle.krb_audit.specs.Names.{kt_name, type_len}
pub use Rattle.krb_audit.specs.Newest.{is_old, newer, has_other_version, is_newer, newest_from, newest}
pub use Rattle.krb_audit.specs.CheckUp.{holes, counts_at, uncounted, added_once, prints_as, about_entries}
pub use Rattle.krb_audit.specs.Report.{finding_lines, octal, missing_line, finding_line, name_line}
pub use Rattle.krb_audit.specs.Rows.{first_number, AreRows, AreNumbered, IsNameKey, name_in, stamp_of, row_in, shown, stamped, newer_stamp}
pub use Rattle.krb_names.specs.Hash.{HashedName, hash_of, name_cmp}
pub use Rattle.krb_audit.specs.Selection.{has_selected_kvno, is_named, is_young}
pub use Rattle.krb_audit.specs.declared.rows.Row.{Row}
pub use Rattle.krb_audit.specs.declared.selection.SelectedKvno.TheVariants.{Beyond, Exactly, Any, Newest}
pub use Rattle.krb_audit.specs.declared.newest.Stamp.{Stamp}
pub use Rattle.krb_keytab.specs.CellViews.{cell_of, cells_of, CellsFrom, BeginsWith}
pub use Rattle.krb_keytab.specs.Cells.{size, Free, Cell}
pub use Rattle.krb_keytab.specs.Entries.{entries_in, entry_in}
pub use Rattle.krb_keytab.specs.Entry.{EntryParts, entry_at, Spells}
pub use Rattle.krb_keytab.specs.Find.{PlacedEntry, placed_entries}
pub use Rattle.krb_wire.proofs.Fields.{some_is, is_some_has, wide32}
pub use Rattle.krb_wire.specs.Names.{have_same_name, name_text}
pub use Rattle.krb_wire.specs.Spelling.{Parts, FitsKt, order_of, kt_principal, name_type_field, data16, HasNameType, digits}
pub use Rattle.krb_wire.specs.declared.format.KtFormat.{KtFormat}
pub use Rattle.krb_findings.specs.Table.{with_if, none, has_some}
pub use Rattle.krb_findings.specs.declared.finding.TheConstants.{FINDINGS, ABOUT_ENTRIES}
pub use Rattle.krb_audit.specs.declared.rows.Names.{Names}
pub use Rattle.krb_keytab.specs.declared.cells.KtCell.{KtCell}
pub use Rattle.krb_keytab.proofs.EntryLists.{entries_of_cells, listed_live}
pub use Rattle.std.proofs.lemmas.Slice.Eq.{bytes_eq-Decides, slice_eq-Decides}
pub use Rattle.krb_names.specs.Set.{HaveSameNames, is_among}
pub use denote.Ref.{Bor}
pub use Rattle.krb_ccache.specs.Store.{placed_credentials, PlacedCredential}
pub use Rattle.krb_audit.specs.Tickets.{SelectsSoFar}
pub use Rattle.std.specs.Cmp.{IsEquivalence}
pub use Rattle.krb_audit.specs.declared.firsts.Alike.{Alike}
pub use Rattle.krb_audit.specs.Before.{AreFirsts, Key, same_key, looked, IsMissing, IsBefore}
pub use Rattle.krb_wire.proofs.NamesCompared.{same_name_is, and_both}
pub use Rattle.std.proofs.lemmas.List.Elements.{filter-append, Contains-append_left, Contains-append_right, Contains-append_cases, Contains-push, Contains-push_cases, filter_agree, All-head, All-tail}
pub use Rattle.krb_names.specs.Marks.{AreMarked}
pub use Rattle.krb_keytab.specs.Store.{KeytabState, store_cell}
