-- The names that the proofs cite most, passed on from one place. Declares nothing.
unfoldable pub use Rattle.krb_copy.specs.Copying.{copy_run}
pub use Rattle.std.proofs.Common.{List, ◌++◌, ℕ, sym, ap, ◌∙◌, subst, ◌≡◌, ◌∷◌, [], true, refl, Bool, cond, false, Ok, Some, arith, Result, Err, ◌+◌, take, length, drop, None, ◌<◌, inl, Option, append_assoc, inr, get_or, ◌*◌, ◌/◌, ◌≤◌, ◌-◌, rules}
pub use Rattle.std.proofs.lemmas.Bool.{cases_Bool, ne_eqb, eqb-true, or_right, eq-eqb, not-false, or_cases, or_left, or_parts, both_ways, cases_eq, and_parts, cond_both, not-true, or_from, cases_lt}
pub use Rattle.std.proofs.lemmas.List.{append-nil, map_push, take_at, drop_more, take_more, take_all, drop_all, map-append, length-replicate, nil_from_length, get_or-set_other, get_or-replicate, get_or_past, length_push}
pub use Rattle.std.proofs.lemmas.List.Folds.{list_any-append, flat_map-map, find-append, list_any_at}
pub use Rattle.std.specs.List.{list_any, AllByRecursion, flat_map, find, cons_option, filter_map, join_with_byte, All, position_from}
pub use Rattle.std.specs.Prelude.{map, ◌||◌, filter, ◌==◌, ◌&&◌, not, ⊤, unwrap_or, option_map, is_some, codes, fold, replicate, set}
pub use Rattle.std.specs.Str.{bytes_eq}
pub use Rattle.krb_copy.specs.Classes.{ClassKey, AreClasses, IsClassKey, kind_of, has_among, emptiness, step_at, HaveClass, places_of, stays, has_key, IsClass}
pub use Rattle.krb_copy.specs.Copying.{run_over, as_found, asked_as, NewParts, renamed, versioned, step_of, Copy, Held, run_start, Clash, Run, There, with_copy, run_after, go_on, has_lines, run_added, as_copied, Step, twins, step_among, is_kept, copied_lines, clash_line}
pub use Rattle.krb_copy.specs.Laws.{IsInPlace, AllStay, OthersStay, changes_of, Has, NothingElse, GoesByItsEntries, AreEntries, ChangesAreReported, SecondDoesNothing, changes_over, AreHistories, HasEachAsked, ReportsNothing, AreMirrored, NoDifference, swapped}
pub use Rattle.krb_copy.specs.Made.{IsRun, IsMade, name_in, new_in, IsRefusal, IsRefusedBy, Meets, Ends, end_at}
pub use Rattle.krb_copy.specs.Texts.{name_texts, AreNames, AreTexts, asked_texts, entry_texts}
pub use Rattle.krb_names.specs.Twins.{are_twins, are_same}
pub use Rattle.krb_keytab.proofs.AfterChanges.{put_gives, cut_gives, added_reads, removed_none}
pub use Rattle.krb_keytab.proofs.StoreChanges.{removal_cuts, addition_puts, cuts_ran}
pub use Rattle.krb_keytab.specs.Changes.{without, put_result, cut_result, with_hole}
pub use Rattle.krb_keytab.specs.Entry.{EntryParts, entry_at}
pub use Rattle.krb_keytab.specs.Find.{PlacedEntry, placed_entries}
pub use Rattle.krb_keytab.specs.Store.{KeytabState, entry_at_place, store_of, store_cell, InMemory}
pub use Rattle.krb_keytab_text.specs.Listing.{removed_line, placed_line}
pub use Rattle.krb_walk.specs.Events.{cut_store, SessionState, after, put_store}
pub use Rattle.krb_walk.specs.declared.refusal.Code.{Code}
pub use Rattle.krb_wire.proofs.Fields.{some_is, ok_is}
pub use Rattle.krb_wire.specs.Names.{name_text}
pub use Rattle.std.proofs.lemmas.List.Concat.{flat_map-append}
pub use Rattle.std.specs.BTreeMap.{BTreeMap, get, Updates, is_at}
pub use Rattle.krb_wire.specs.Spelling.{Parts}
pub use Rattle.krb_copy.specs.declared.class.Class.{Class}
pub use Rattle.std.proofs.lemmas.List.Elements.{recursion_from_All, filter_map-append, filter-append, All-from_recursion, All-head, All-tail, All-filter}
pub use Rattle.krb_walk.specs.Rules.{Rules, PutGives}
pub use Rattle.krb_copy.specs.DiffRows.{IsNumbering, shown, first_place, row_line, AreKeys, lacks, rows_due, to_key, marked, class_number, entry_of, row_due}
pub use Rattle.std.proofs.lemmas.Slice.Eq.{bytes_eq-Decides}
pub use Rattle.krb_names.proofs.NameOrder.{names_tie}
pub use Rattle.krb_names.specs.Hash.{name_cmp, hash_of}
pub use Rattle.std.proofs.lemmas.Cmp.{nat_list_eq_equiv, nat_eq_equiv, on_equiv, and_equiv}
pub use Rattle.krb_text.proofs.Found.{any_of_map}
pub use Rattle.krb_copy.specs.declared.numbering.Row.{Row}
pub use Rattle.std.proofs.Math.Bool.{and-false, or_comm, or-false, not-and_self, or_assoc, or-true}
pub use Rattle.std.proofs.lemmas.Option.{none-some}
pub use Rattle.krb_wire.proofs.Lists.{all_front, all_join}
pub use Rattle.krb_wire.specs.Reading.{◌>>=◌, principal_parts}
pub use Rattle.krb_walk.specs.Store.{Cell, Store, Standing, Record, standing, end_from, record_of, record_of_some, bytes_of_some, live_bytes, fault_of, fault_from}
pub use denote.Ref.{Bor}
pub use Rattle.krb_copy.specs.declared.class.Class.TheVariants.{Empty, One}
pub use Rattle.std.proofs.lemmas.Result.{err_from_is_err_and}
pub use Rattle.krb_copy.specs.declared.copy.Copying.{Copying}
pub use Rattle.krb_keytab.specs.Form.{IsEntry, read_back}
pub use Rattle.krb_copy.specs.declared.diff.Keys.{Keys}
pub use Rattle.std.specs.BTreeSet.{contains_by}
pub use Rattle.std.specs.Option.{option_or}
pub use Rattle.krb_names.proofs.Numbered.{number_test, position_at, number_is, position_any, numbers_next}
