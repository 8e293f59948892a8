-- The names that the proofs cite most, passed on from one place. Declares nothing.
pub use Rattle.std.proofs.Common.{ap, ◌≡◌, ◌∙◌, arith, sym, length, refl, ℕ, List, ◌++◌, subst, ◌+◌, [], ◌∷◌, ◌≤◌, Some, drop, length-append, None, false, map, Option, ◌<◌, append_assoc, take, Ok, true, ◌-◌, Bool, ◌^◌, Result, Err, sum, rules, ◌≢◌, replicate, get_or, filter, IfNone, ◌*◌}
pub use Rattle.std.proofs.lemmas.Bool.{le-ltb, lt-ltb}
pub use Rattle.std.proofs.lemmas.Bool.Decides.{nat_tests}
pub use Rattle.std.proofs.lemmas.List.{append-nil, drop_at, take_at, take-append-drop, drop-drop, length-drop, length-take, at_drop_more, length-map, length-replicate, map-append}
pub use Rattle.std.proofs.lemmas.List.Concat.{flat_map-cons}
pub use Rattle.std.specs.Int.{w16, w32, cast_unsigned, Width}
pub use Rattle.std.specs.List.{flat_map, AllByRecursion, splice, filter_map, cons_option}
pub use Rattle.std.specs.Prelude.{is_some, nat_lt, ◌==◌, option_map, find, option_copied, IfOk, IsSome, if◌then◌else◌, ⊤, unwrap_or, not, ◌&&◌, Vec, IfSome}
pub use Rattle.krb_ccache.specs.Changes.{add_mark_at, is_read_only, new_preamble, with_last, without, add_mark, put_result, new_header, is_refused, with_mark, create_result, append_result, cut_result, empty_cache}
pub use Rattle.krb_ccache.specs.Config.{query_of, is_match, QueryParts, value_among, config_of}
pub use Rattle.krb_ccache.specs.Credential.{CredParts, credential, is_marked, FitsCredential, number32, owned_list, FitsTypedData, typed_data, typed_list, times, TypedData, key, lists_text, FitsTypedList, owned_typed, Key, FitsTimes, plain_key, in_version_4, middle_text, FitsSecondEnctype, second_enctype_field, FitsKey, second_enctype_at}
unfoldable pub use Rattle.krb_ccache.specs.Credential.{credential_at, typed_data_at, times_at, typed_list_at, key_at}
pub use Rattle.krb_ccache.specs.Credentials.{CredentialsFrom, AreCredentials, live_from, live_at, BeginsWithCredential}
unfoldable pub use Rattle.krb_ccache.specs.Credentials.{times_from}
pub use Rattle.krb_ccache.specs.Header.{header, Field, fields_in, offset_in, fields_format, only_cells, field, FitsHeader, FitsField, header_offset, offset_of, first_of, header_end}
unfoldable pub use Rattle.krb_ccache.specs.Header.{header_at, field_at}
pub use Rattle.krb_ccache.specs.Laws.{AreBytes, live_credentials, IsSoundCache}
pub use Rattle.krb_ccache.specs.Rewrite.{new_texts, new_text, new_cells, ReadsNewText, cache_rules, rewrite_of, rewrite_result}
unfoldable pub use Rattle.krb_ccache.specs.Rewrite.{after_first_enctype}
pub use Rattle.krb_ccache.specs.Open.{cache_of, InMemory, IsImage, Holds, principal_in, header_in, credentials_len, empty_name, ArePlaces}
pub use Rattle.krb_ccache.specs.SetConfig.{entry_of, match_places, HoldsConfig, then_without, config_entry, matches_of, SettingParts}
pub use Rattle.krb_ccache.specs.Store.{CacheState, store_of, store_cell, first_place, credentials_format, image_of, credential_at_place, live_by, placed_from, fault_kind, live_of, open_header, version_byte, PlacedCredential, is_live, if_live, open_default, open_result, version_in}
pub use Rattle.krb_ccache.specs.declared.offset.Offset.{Offset}
pub use Rattle.krb_ccache.specs.declared.open.Layout.{Layout}
pub use Rattle.krb_ccache.specs.declared.version.Version.{Version}
pub use Rattle.krb_ccache.specs.declared.version.Version.TheVariants.{V4, V3}
pub use Rattle.krb_cells.proofs.ContentsLemmas.{contents_again, contents_spelled, unframed_format, reads_one, unframed_cell, IsFormat, contents_behind, reads_none, ReadsOne, behind}
pub use Rattle.krb_cells.specs.Cells.{seen_in, AreCells}
pub use Rattle.krb_cells.specs.Contents.{Contents, contents, next_by, spelling, IsCell, IsSpelled, NoMore, IsEnd, More}
pub use Rattle.krb_walk.specs.Store.{end_of, fault_of, end_from, live_bytes, IsPlace, Cell, is_place_from, Store}
pub use Rattle.krb_walk.specs.declared.refusal.Code.{Code}
pub use Rattle.krb_wire.proofs.Fields.{IsBytes, some_is, IsBytes-drop, Takes, bind_some, is_some_has, Takes-then, wide32, wide16, IsBytes-take, IsWide, number_again, number_takes, IsBytes-front, IsBytes-back, ok_is, byte_takes}
pub use Rattle.krb_wire.proofs.PenLemmas.{puts_then, left_all, left_next, Left, left_none, left_room}
pub use Rattle.krb_wire.proofs.Places.{IsField}
pub use Rattle.krb_wire.proofs.Principals.{cc_principal_field, data16_field, data32_field, no_cc_principal}
pub use Rattle.krb_wire.proofs.ReadLists.{held_has_one, length_held, held_has_end, first_held, none_held, list_takes, held, ends, is_done, list_again, length_list, goes_on, past_held}
pub use Rattle.krb_wire.specs.Text.{Puts, HasRoom, IsAt}
pub use Rattle.krb_wire.specs.Reading.{data16_at, cc_principal_at, number_at, list_end, ◌>>=◌, byte_at, data32_at, principal_parts}
pub use Rattle.krb_wire.specs.Spelling.{cc_principal, digits, data32, Parts, FitsCc, data16, IsLong, cc_name_fits, IsShort}
pub use Rattle.krb_wire.specs.declared.format.Order.TheVariants.{Big}
pub use Rattle.krb_ccache.specs.declared.open.Places.{Places}
pub use Rattle.krb_walk.specs.Events.{cut_store, put_store}
pub use Rattle.krb_ccache.specs.declared.credential.times.Times.{Times}
pub use Rattle.std.proofs.lemmas.Grind.{flat_map-append}
pub use Rattle.krb_wire.proofs.Lists.{all_join, headed, all_front, all_back}
pub use Rattle.krb_walk.specs.Ranks.{Rewrites, carry}
pub use Rattle.krb_walk.proofs.Splits.{whole_of, bytes_here, split_is_place}
pub use Rattle.krb_walk.proofs.Stops.{bytes_from}
pub use Rattle.krb_walk.specs.Changes.{Cuts}
