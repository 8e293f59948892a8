-- The names that the proofs cite most, passed on from one place. Declares nothing.
pub use Rattle.std.proofs.Common.{ap, ◌∙◌, sym, ◌≡◌, List, ℕ, [], refl, arith, Option, ◌∷◌, Some, None, true, false, subst, ◌++◌, ◌≤◌, Bool, ◌<◌, length, ◌+◌, inr, inl, suc, map, cond, take, zero, ◌≢◌, Result, Ok, Err, drop, append_assoc, set, replicate, get_or}
pub use Rattle.std.proofs.lemmas.Bool.{leb-true, leb-false, le-leb, lt-leb}
pub use Rattle.std.proofs.lemmas.Bool.Decides.{nat_tests}
pub use Rattle.std.proofs.lemmas.List.{append-nil, length-append, map-append, length-map, take-append-drop, take_all, length-take-le, length-take, length-drop, take_more}
pub use Rattle.std.specs.List.{AllByRecursion, filter_map, list_any, find, drop-map, cons_option, take-map}
pub use Rattle.std.specs.Option.{option_to_list, option_or, option_map}
pub use Rattle.std.specs.Prelude.{◌==◌, ◌&&◌, nat_lt, nat_le, ◌⊎◌, slice_get, filter, is_some, ◌||◌, IsSomeAnd, IsSome, IfOk, OnErr, slice_set, OnOk, insert, remove}
pub use Rattle.krb_walk.specs.Changes.{Changes, Puts, Cuts, Appends, Fills, OneCell}
pub use Rattle.krb_walk.specs.Fair.{CursorIsSound, KeepsSide, CursorMayGo, IsFair, additions}
pub use Rattle.krb_walk.specs.Due.{rows_at_event, row_of, given_over, due_over, due_by_steps, turn, due_at_event, rows_between, row_at_turn}
pub use Rattle.krb_walk.specs.Events.{stop_cursor, SessionState, after, reply_to, session_of, stop_reply, cursors_after, step_cursors, rewrite_reply, store_after, cut_reply, end_reply, cut_store, rewrite_cursors, put_reply, step_reply, put_store}
pub use Rattle.krb_walk.specs.History.{IsReady, Row, state_after, history, AllLawful, IsLawful, moment, rows_of_reply, AllPlain, Moment, replies, given, given_from, steps_walk, IsKept, place_after}
pub use Rattle.krb_walk.specs.Ran.{Ran}
pub use Rattle.krb_walk.specs.Ranks.{live_places, rank, carry, nth_or, Rewrites}
pub use Rattle.krb_walk.specs.Records.{place_among, is_name, passes_record, rows_at, place_of, HasTurn, turn_of, goes_past_some, rows_of, OneRow, rows_here, rows_at_some, EachComesAsDue, place_at_first, ComeInTurn, IsNamed, begins, IsAliveUntilDone, IsAddedAt, IsCutBefore}
pub use Rattle.krb_walk.specs.ReplyContent.{ReplyContent, Placed, is_rewritten, Gone, Rewritten, is_step_reply, Gave, content_of, Started, Refused, completes, Ended, Faulted, is_gave, is_placed}
pub use Rattle.krb_walk.specs.Rules.{Rules, CutGives, PutGives, RewriteGives}
pub use Rattle.krb_walk.specs.Stops.{records_from, StopsGiveRecords, WalksBeginWithAll, StopsEnd}
pub use Rattle.krb_walk.specs.Store.{Store, end_of, IsSound, next_live, Record, Cell, is_place, end_from, is_place_from, live_at, standing, stop_of, end_stop, bytes_of_some, record_with, fault_from, record_of_some, stop_at, size_at, record_of, records, live_bytes, Standing}
pub use Rattle.krb_walk.specs.Track.{RecordName, IsTrack, WalkEvent, Track, carry_by, IsWalkEvent, AnswersStep, first_names, last_names, names_after, last_cursor, PlacesStay, track_on, IsWalk, goes_past, track, track_of, Stays, MovesCursor, passes}
pub use Rattle.krb_walk.specs.declared.event.Event.{Event}
pub use Rattle.krb_walk.specs.declared.event.Event.TheVariants.{Step, Resume, Start, Rewrite, Put, Cut}
pub use Rattle.krb_walk.specs.declared.fault.FaultKind.{FaultKind}
pub use Rattle.krb_walk.specs.declared.refusal.Code.{Code}
pub use Rattle.krb_walk.specs.Damage.{GiveToFault, RefusesChange, RefusesChanges, as_walk, gave, step_replies}
pub use Rattle.krb_walk.specs.Joins.{IsThereOrResumes, Join, Next, joined, track_then}
pub use Rattle.krb_wire.proofs.Lists.{all_back, all_front, all_join}
pub use Rattle.std.proofs.Math.Seq.{drop-append-add, drop-append_seam, take-append_seam, take-set-lt}
pub use Rattle.std.proofs.lemmas.Grind.{flat_map-append}
