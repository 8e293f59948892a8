-- The names that the proofs cite most, passed on from one place. Declares nothing.
pub use Rattle.std.proofs.Common.{◌≡◌, ◌∙◌, sym, ap, ap₂, subst, refl, arith, ℕ, zero, suc, ◌+◌, ◌-◌, ◌<◌, ◌≤◌, Bool, true, false, cond, List, [], ◌∷◌, ◌++◌, length, take, drop, map, get_or, Option, Some, None, append_assoc, append-nil, ◌==◌}
pub use Rattle.std.proofs.Math.Bool.{and-true}
pub use Rattle.std.proofs.lemmas.Bool.{eqb-true, not-false, ne_eqb, le-ltb, lt-ltb}
pub use Rattle.std.proofs.lemmas.List.{length_push, take_all, get_or_default}
pub use Rattle.std.proofs.lemmas.List.Elements.{filter-append}
pub use Rattle.std.proofs.lemmas.List.Folds.{find-append, Any-from_list_any}
pub use Rattle.std.proofs.lemmas.Grind.{fold-append}
pub use Rattle.std.specs.List.{fold, list_any, AllByRecursion, position_from}
pub use Rattle.std.specs.Option.{option_or, option_map_or, option_cmp, option_eq}
pub use Rattle.std.specs.Prelude.{◌||◌, ◌&&◌, not, filter, find, option_map, is_some, unwrap_or, ◌≢◌, pos, Result, Ok, Err, codes, slice_get, nat_eq, IfOk}
pub use Rattle.std.specs.Str.{bytes_eq}
pub use Rattle.std.specs.Vec.{vec_items}
pub use Rattle.std.specs.BTreeMap.{BTreeMap, get, Updates}
pub use Rattle.krb_wire.specs.Spelling.{Parts}
pub use Rattle.krb_wire.specs.Names.{have_same_name, name_text}
pub use Rattle.krb_keytab.specs.Entry.{EntryParts, entry_at}
pub use Rattle.krb_keytab.specs.Find.{PlacedEntry, placed_entries, find_result, is_match, look_up_in}
pub use Rattle.krb_names.proofs.SameNames.{same_equiv}
pub use Rattle.krb_audit.specs.Newest.{is_newer, newest_from}
pub use Rattle.krb_audit.specs.Rows.{stamp_of}
pub use Rattle.krb_names.specs.Set.{HaveSameNames, is_among}
pub use Rattle.krb_audit.specs.declared.newest.Stamp.{Stamp}
pub use Rattle.krb_match.specs.Names.{bare_key, entry_key, folded_key, name_key, entry_text}
pub use Rattle.krb_match.specs.Match.{asked_version, entry_etype, etypes_of, fits, has_name, is_new, judged, judged_among, named, newest_version, no_opener, opener, opener_among, ticket_of, wanted, Ticket, name_of, etypes_from}
pub use Rattle.krb_match.specs.Table.{AreKeys, AreNoted, ArePlaced, AreUnited, ClassKey, GroupKey, GroupParts, HasNumber, IsAdded, IsNoted, IsNumbered, Rises, earlier, first_of, firsts_of, fitting_of, group_cmp, group_in, grown, is_any, is_first_in, is_in, is_of, newer, placed_in, same_class, same_key, seen_group, versions, with_entry}
pub use Rattle.krb_match.specs.declared.group.Group.{Group}
pub use Rattle.krb_match.specs.declared.fitting.Fitting.{Fitting}
pub use Rattle.krb_match.specs.declared.keys.Keys.{Keys}
pub use Rattle.krb_ccache.specs.Store.{PlacedCredential, placed_credentials}
pub use Rattle.krb_ccache.specs.declared.ticket.TicketEncryption.{TicketEncryption}
pub use Rattle.krb_copy.proofs.ClassKeys.{names_agree}
pub use Rattle.krb_keytab.specs.Store.{KeytabState}
pub use Rattle.krb_match.specs.Looking.{AreMatched, IsJudge, IsNear, IsSaid}
pub use Rattle.krb_match.specs.Near.{lesser}
pub use Rattle.krb_match.specs.Said.{judgement_line, etype_list}
pub use Rattle.krb_match.specs.Tickets.{MatchedParts, first_near, matched, near_by, said, is_asked, looked_at, is_looked_at, matched_tickets, near_ticket}
pub use Rattle.krb_match.specs.declared.judgement.Judgement.TheVariants.{Opens, Kvno, Etype}
pub use Rattle.krb_names.specs.Hash.{hash_of}
pub use Rattle.std.proofs.lemmas.Bool.Decides.{nat_tests}
pub use Rattle.std.proofs.lemmas.Result.{IfOk-weaker, on_ok_weaker}
pub use Rattle.std.proofs.lemmas.Slice.Eq.{bytes_eq-Decides}
pub use Rattle.krb_copy.proofs.Passing.{any_left, some_found}
pub use Rattle.krb_copy.proofs.Elsewhere.{all_mapped}
