-- The names that the proofs cite most, passed on from one place. Declares nothing.
pub use Rattle.std.proofs.Common.{◌≡◌, ℕ, ◌+◌, ◌<◌, List, length, get_or, arith, [], inr, refl, sym, ap, subst, ◌∙◌, inl, take, drop, map, ◌∷◌, ◌++◌, Bor}
pub use Rattle.std.specs.Prelude.{Bool, true, false, IsFalse, Ok, Err, fold, Result, codes, ◌⊎◌, IsTrue, Option, None, Some, nat_lt, filter, ◌||◌}
pub use Rattle.std.specs.List.{flat_map, list_any}
pub use Rattle.std.specs.Io.KnownBytes.{Appends}
pub use Rattle.krb_audit.specs.CheckUp.{CheckParts, checked}
pub use Rattle.krb_driver.specs.Commands.{CommandPlan, ShowsPage, Displays, Page, Effect, IsMade, MakesFairly, any, tries}
pub use Rattle.krb_driver.specs.Composing.{EndsAfter, Tries}
pub use Rattle.krb_driver.specs.RunErrors.{output_error, verdict_status, Ending}
pub use Rattle.krb_files.proofs.Prefixes.{Appends-nil, AppendsPrefix-none, Appends-trans, AppendsPrefix-after, AppendsPrefix-all, AppendsPrefix-longer}
pub use Rattle.krb_files.specs.Bytes.{Watch, AppendsPrefix, is_write_fault}
pub use Rattle.krb_files.specs.declared.output.OutFault.{OutFault}
pub use Rattle.krb_files.specs.Plan.{Ends}
pub use Rattle.krb_json.specs.Check.{check_json_text}
pub use Rattle.krb_text.specs.Gathered.{Prints}
pub use Rattle.krb_readers.specs.Ktcheck.{found_verdict, is_silent, object_page, refused_effect, found, page_of}
pub use Rattle.krb_readers.specs.KtcheckWords.{KeytabCheck, spelled_finding, spelled_findings, keytab_check_of, odd_only}
pub use Rattle.krb_ccache.specs.Store.{placed_credentials, PlacedCredential, CacheState}
pub use Rattle.krb_readers.specs.Klist.{SeesSoFar, listed_text, listing_page, gap, has_ticket, is_valid_after, last_end, later, latest, keytab_shown, page}
pub use Rattle.krb_driver.proofs.Making.{makes-end}
pub use Rattle.std.proofs.lemmas.Result.{err_from_is_err_and}
pub use Rattle.krb_readers.specs.Ktmatch.{MatchesEach, MatchesNext, first_state, line_of, plan_of, words_of, words_with, page_due}
pub use Rattle.krb_readers.specs.declared.ktmatch.state.MatchState.{MatchState}
pub use Rattle.krb_driver.specs.Several.{Round, first_round}
pub use Rattle.krb_driver.specs.declared.file_name.FileName.{FileName}
pub use Rattle.krb_files.specs.declared.files.Files.{Ghosts}
pub use Rattle.krb_keytab.specs.Store.{KeytabState, store_of}
pub use Rattle.std.proofs.lemmas.List.{drop_all, drop_more}
pub use Rattle.krb_findings.specs.declared.finding_set.FindingSet.{FindingSet}
pub use Rattle.krb_driver.specs.Loading.{result_map, keytab_in, matched_in}
pub use Rattle.krb_driver.specs.Mistakes.{MistakeParts, Matched, first_value, twice, v1_order}
pub use Rattle.krb_driver.specs.Spelled.{◌>>=◌, ◌>>◌, each, printed_name, spelled_seconds, spelled_etype, spelled_name, spelled_version}
pub use Rattle.std.specs.Result.{result_err}
pub use Rattle.krb_walk.specs.Store.{fault_of}
pub use Rattle.krb_driver.proofs.Spelled.{no_mistake}
pub use Rattle.krb_findings.specs.Table.{joined}
pub use Rattle.krb_readers.specs.Ktfind.{EntrySought, finds, entry_sought_of}
pub use Rattle.krb_readers.specs.KtmatchWords.{TicketMatch}
pub use Rattle.krb_match.specs.Tickets.{MatchedParts}
