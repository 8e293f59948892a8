-- The names that answers cite most, passed on from one place. Declares nothing.
pub use Rattle.krb_editors.proofs.Cited.{Cache, CacheState, CopyParts, Ends, Err, Fails, HaveSame, IsNonDecreasing, IsSpent, Keytab, KeytabState, List, Matched, MistakeParts, Ok, Option, Result, RunError, SelectionParts, SessionState, V2, V4, [], added, ap, append-nil, append_assoc, arith, cache_rules, cache_session, can_hold, carry_by, codes, content_of, copied_kvnos, end_of, err_from_is_err_and, fair_first, fairly-failed, fairly-holds, first_value, followed_over, hides_added, history, image_of, inl, inr, keytab_or_empty, keytab_rules, left, length, list_any, live_places, makes-fairly, map, may_change, nat_lt, new_session, nth_or, odd_options, opens, option_map, places_rise, ran_none, record_tail, replied, reply_texts_by, result_err, rules, selection_of, session_of, spelled_new_name, subst, sym, take, take_all, v1_order, walks_begin_with_all, ℕ, ◌++◌, ◌<◌, ◌>>=◌, ◌∙◌, ◌∷◌, ◌≡◌, ◌≤◌}
pub use Rattle.krb_editors.proofs.AddedPlaces.{below_point, hides_same, passes, passes_none, places_from, rises-non_decreasing, same_followed, same_inserted, same_refl, same_trans, same_turned}
pub use Rattle.krb_editors.proofs.Looking.{Leads}
pub use Rattle.krb_editors.proofs.RunJoins.{one_more, ran_event, ran_line, ran_to_end, set_placed}
pub use Rattle.krb_editors.proofs.SessionReplies.{begun_fair, left_begun, made_as, made_so, ran_begun, ran_fair, session_made}
pub use Rattle.krb_editors.specs.Ktedit.{RunsFairly, edits, hidden}
pub use Rattle.std.proofs.Common.{drop}
pub use Rattle.std.specs.Prelude.{None}
pub use Rattle.krb_editors.proofs.SpelledParts.{one_spelled, two_spelled}
