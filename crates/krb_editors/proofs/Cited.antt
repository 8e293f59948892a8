-- The names that the proofs cite most, passed on from one place. Declares nothing.
pub use Rattle.std.proofs.Common.{◌∙◌, ap, map, sym, ◌≡◌, List, ℕ, [], refl, ◌++◌, subst, arith, length, ◌∷◌, inr, true, inl, ◌<◌, false, Bool, take, ◌≤◌, append_assoc, rules, get_or, Some, ◌-◌, Option, ◌≢◌, zero, suc, None, ◌+◌, drop, length-append}
pub use Rattle.std.proofs.lemmas.List.{append-nil, take_more, take_all, drop_more, drop_all}
pub use Rattle.std.proofs.lemmas.Result.{err_from_is_err_and}
pub use Rattle.std.specs.List.{list_any, flat_map}
pub use Rattle.std.specs.Prelude.{Err, Ok, nat_lt, ◌||◌, ◌&&◌, ◌==◌, not, filter, cond, option_and_then, Result, IfOk, codes, decimal, IsTrue, IsFalse, option_map}
pub use Rattle.krb_editors.specs.Sessions.{HaveSame, followed_over, carry_by, followed_past, places_after, new_session, replied, left, may_change, added, session_effect, RunsFairly}
pub use Rattle.krb_editors.specs.Ccedit.{cache_session, lines_events, is_refusal, line_events}
pub use Rattle.krb_ccache.specs.Rewrite.{cache_rules}
pub use Rattle.krb_ccache.specs.Store.{CacheState, image_of, PlacedCredential}
pub use Rattle.krb_driver.proofs.Making.{makes-fairly, fairly-failed, fairly-holds, makes-end}
pub use Rattle.krb_driver.specs.Commands.{fair_first, Makes, Fails, Effect, IsSpent, opens, can_hold, text, CommandPlan, saves_unless}
pub use Rattle.krb_driver.specs.Composing.{text_effect, faults}
pub use Rattle.krb_driver.specs.declared.error.RunError.{RunError}
pub use Rattle.krb_files.specs.Plan.{Ends}
pub use Rattle.krb_keytab.specs.Store.{KeytabState}
pub use Rattle.krb_keytab_text.specs.Reply.{reply_texts_by, record_tail}
pub use Rattle.krb_walk.proofs.Runs.{ran_none, ran_of}
pub use Rattle.krb_walk.specs.Events.{SessionState, reply_to, session_of, after, put_reply}
pub use Rattle.krb_walk.specs.History.{history, state_after, replies, moment, AllLawful}
pub use Rattle.krb_walk.specs.Ran.{Ran}
pub use Rattle.krb_walk.specs.Ranks.{live_places, nth_or}
pub use Rattle.krb_walk.specs.ReplyContent.{content_of, ReplyContent}
pub use Rattle.krb_walk.specs.Rules.{Rules}
pub use Rattle.krb_walk.specs.Store.{end_of, is_place, Store, Record, next_live, stop_of, IsSound, stop_at}
pub use Rattle.krb_walk.specs.declared.event.Event.{Event}
pub use Rattle.krb_driver.specs.Loading.{keytab_or_empty, cache_of}
pub use Rattle.krb_files.specs.declared.files.Files.{Ghosts}
pub use Rattle.krb_driver.specs.declared.file_name.FileName.{FileName}
pub use Rattle.krb_driver.specs.declared.error.RunError.TheVariants.{NothingToCopy, OutputNotWritten}
pub use Rattle.krb_walk.specs.declared.event.Event.TheVariants.{Put, Cut}
pub use Rattle.krb_walk.specs.declared.refusal.Code.{Code}
pub use Rattle.krb_ccache.specs.Credential.{CredParts}
pub use Rattle.krb_editors.specs.MissingFiles.{LooksAt, LooksFor}
pub use Rattle.krb_ccache.specs.declared.version.Version.TheVariants.{V4}
pub use Rattle.krb_driver.specs.declared.verdict.FileKind.TheVariants.{Cache, Keytab}
pub use Rattle.krb_wire.specs.declared.format.KtFormat.TheVariants.{V2}
pub use Rattle.krb_keytab.specs.Rewrite.{keytab_rules}
pub use Rattle.krb_audit.specs.Findings.{hides_added, hidden_at, hidden_from}
pub use Rattle.krb_text.proofs.Found.{any_of_map}
pub use Rattle.krb_walk.specs.Stops.{records_from}
pub use Rattle.krb_walk.proofs.Stops.{stops_end, stops_give_records, walks_begin_with_all}
pub use Rattle.std.specs.List.Sorted.{IsNonDecreasing}
pub use Rattle.krb_walk.proofs.Carries.{Rises, places_rise}
pub use Rattle.std.proofs.lemmas.Bool.{eq-eqb, eqb-true, true≢false, false≢true}
pub use Rattle.std.proofs.Math.Bool.{or_assoc}
pub use Rattle.krb_editors.specs.Ktcopy.{CopyParts, copies_from, finds_none, copied_kvnos, odd_options}
pub use Rattle.krb_driver.specs.Runs.{ErrorWatch, Shows, Writes}
pub use Rattle.std.specs.Result.{result_err}
pub use Rattle.krb_driver.specs.Mistakes.{MistakeParts, Matched, first_value, v1_order}
pub use Rattle.krb_driver.specs.Spelled.{◌>>=◌, ◌>>◌}
pub use Rattle.krb_driver.specs.declared.verdict.Verdict.TheVariants.{Well}
pub use Rattle.krb_audit.specs.Selection.{SelectionParts}
pub use Rattle.krb_editors.specs.Selecting.{selection_of, spelled_new_name}
