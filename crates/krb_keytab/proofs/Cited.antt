-- The names that the proofs cite most, passed on from one place. Declares nothing.
pub use Rattle.std.proofs.Common.{◌≡◌, sym, ◌∙◌, ap, arith, length, ℕ, subst, List, refl, ◌+◌, ◌≤◌, ◌<◌, ◌++◌, ◌∷◌, [], drop, true, None, false, ◌^◌, Some, map, ◌-◌, Option, take, inr, inl, append_assoc, length-append, Ok, Bool, replicate, ◌*◌, rules, suc, cond, get_or, Err, ltb, eqb, zero, Result, ◌/◌, ◌⊎◌, ◌≢◌, add-one, ◌%◌, vec_len, vec_capacity, drop-cons, of_calls}
pub use Rattle.std.proofs.Math.ListN.{set, drop_of_length-le}
pub use Rattle.std.proofs.Math.Nat.{pow-suc, mul-le-mul_left, pow-succ'}
pub use Rattle.std.proofs.lemmas.Bool.{cases_lt, lt-ltb, le-ltb, ne_eqb, leb-true, ltb-true, eqb-true, lt-leb, ltb-false, cases_Bool, and_right, OnTrue_from, le-leb, true≢false, OnFalse_from, leb-false, false_from_ne_true, OnTrue_at}
pub use Rattle.std.proofs.lemmas.Bool.Decides.{eqb_tells, leb_tells, Decides-eqb, nat_tests}
pub use Rattle.std.proofs.lemmas.List.{take_at, length-take, append-nil, length-map, length-replicate, drop_at, length-drop, map-append, take-append-drop, drop-drop, take_all, drop-append-le, set-append_left, map-set, get_or-drop, drop-replicate, get_or-map, replicate-append-replicate, drop_all, get_or_default, get_or_past, length-set}
pub use Rattle.std.proofs.lemmas.List.Concat.{flat_map-cons}
pub use Rattle.std.specs.Int.{w32, w16}
pub use Rattle.std.specs.List.{flat_map, AllByRecursion, splice, filter_map, cons_option, starts_with, position_from}
pub use Rattle.std.specs.Prelude.{is_some, IsSome, ◌==◌, option_map, ◌&&◌, nat_lt, slice_index, IfSome, filter, nat_le, max, find, if◌then◌else◌, nat_eq, ⊤, OnOk, IfOk, IfNone, ◌||◌}
pub use Rattle.krb_keytab.specs.CellViews.{CellsFrom, IsFirst, BeginsWith, cells_of, IsCellOrNothing, cell_of}
pub use Rattle.krb_keytab.specs.Cells.{Live, Cell, cell, Free, IsCell, Contents, end_bytes, IsSound, size, kind_of, Bare, End, length_field, bytes_of, spelling, cell_in, length_of_cell, IsSpelled, IsEnd, image, keytab_format, short_end, next_of_length, next_by, size_of, length_of, HasField, field_of}
unfoldable pub use Rattle.krb_keytab.specs.Cells.{contents, next}
pub use Rattle.krb_keytab.specs.Changes.{end_after, hole_from, with_last, cut_result, PlacedCell, with_hole, first_hole, record_in, zero_hole, with_record_in, with_zeros, replaced_at, is_hole, put_result, hole_of, append_result, without, placed_cells}
pub use Rattle.krb_keytab.specs.Entry.{EntryParts, Spells, entry_of, front, version_by, Front, FitsFront}
unfoldable pub use Rattle.krb_keytab.specs.Entry.{entry_at, front_at}
pub use Rattle.krb_keytab.specs.Find.{PlacedEntry, is_match, placed_entries, look_up_in, selected_version, first_or_missing, find_result, placed_entry, greatest, look_up}
pub use Rattle.krb_keytab.specs.Form.{written_form, fits, IsEntry, IsRecord, read_back, front_of, kept_type}
pub use Rattle.krb_keytab.specs.Image.{IsKnownEnd, ends, IsChanged, len_with, ending_kind, mark_len, IsPassed, EndsThere}
pub use Rattle.krb_keytab.specs.Index.{slot_at, IsIndex, IsFit, IsLiveNumber, HasSpare}
pub use Rattle.krb_keytab.specs.LookUp.{IsFoundAmong, answer, IsPrefix}
pub use Rattle.krb_keytab.specs.Nodes.{AreNodesFrom, IsTree, child_with, AreNodes, AreNodesBut}
pub use Rattle.krb_keytab.specs.Rewrite.{rewrite_of, new_record, rewrite_result, keytab_rules}
pub use Rattle.krb_keytab.specs.Slot.{free_size, slots_from, slot_of, places, IsRank, hole_of_slot, is_free, negated, IsRising, room_of}
pub use Rattle.krb_keytab.specs.Store.{KeytabState, store_of, end_place, store_cell, image_of, InMemory, entry_at_place, IsImage, store_of_image, entries, store_cells, empty, live_of}
pub use Rattle.krb_keytab.specs.Tree.{SizeTree, first_fit, looks_for, IsHeightFor, HasRoomFor, IsGrown}
pub use Rattle.krb_keytab.specs.declared.cells.Hole.{Hole}
pub use Rattle.krb_keytab.specs.declared.image.CellsEnd.{CellsEnd}
pub use Rattle.krb_keytab.specs.declared.image.Ending.{Ending}
pub use Rattle.krb_keytab.specs.declared.indexed.slot.Slot.{Slot}
pub use Rattle.krb_keytab.specs.declared.length.Length.{Length}
pub use Rattle.krb_walk.proofs.Places.{cuts-extends, place_kept, place_first}
pub use Rattle.krb_walk.proofs.Stops.{bytes_from, end_from-ge, records_of}
pub use Rattle.krb_walk.specs.Ranks.{Rewrites, carry}
pub use Rattle.krb_walk.specs.Store.{end_of, live_bytes, fault_of, IsPlace, is_place, Record, Store, records, standing, bytes_of_some, record_of, record_of_some}
pub use Rattle.krb_wire.proofs.Fields.{IsBytes, wide32, some_is, IsBytes-drop, is_some_has, number_takes, wide16, number_again, bind_some, Takes-then, data16_takes, Takes, IsBytes-take, data16_again, IsBytes-back, IsBytes-front, byte_takes, ok_is}
pub use Rattle.krb_wire.proofs.NamesCompared.{and_both, both_and}
pub use Rattle.krb_wire.proofs.PenLemmas.{puts_then, left_next, Left, left_none, left_room, left_all}
pub use Rattle.krb_wire.specs.Text.{Puts}
pub use Rattle.krb_wire.specs.Reading.{number_at, data16_at, ◌>>=◌, byte_at, Gives}
unfoldable pub use Rattle.krb_wire.specs.Reading.{kt_principal_at}
pub use Rattle.krb_wire.specs.Names.{have_same_name}
pub use Rattle.krb_wire.specs.Spelling.{order_of, digits, Parts, name_fits, data16, kt_principal, name_type_field, count_field, HasNameType, is_short, IsShort, version_byte}
pub use Rattle.krb_wire.specs.declared.format.KtFormat.{KtFormat}
pub use Rattle.krb_wire.specs.declared.format.KtFormat.TheVariants.{V2}
pub use Rattle.krb_wire.specs.declared.format.Order.{Order}
pub use Rattle.krb_wire.specs.declared.format.Order.TheVariants.{Big}
pub use Rattle.krb_cells.proofs.Cuts.{live_is_place}
pub use Rattle.krb_cells.specs.Contents.{More, NoMore}
pub use Rattle.krb_walk.proofs.Splits.{bytes_ahead, bytes_here, whole_of}
pub use Rattle.krb_walk.specs.declared.refusal.Code.{Code}
pub use Rattle.krb_wire.proofs.Lists.{all_back, all_front, all_join, headed}
pub use Rattle.krb_wire.proofs.Principals.{kt_principal_again, kt_principal_takes}
pub use Rattle.std.proofs.Math.Pow.{pow_mono}
pub use Rattle.std.proofs.Math.Seq.{drop-append-add, get_or-append_seam, set-append_seam, take-suc}
pub use Rattle.std.proofs.lemmas.Grind.{flat_map-append}
pub use Rattle.std.proofs.lemmas.List.Elements.{All-from_recursion, filter-append}
pub use Rattle.std.proofs.lemmas.Nat.{pow-add, pow_pos}
