-- The names that the proofs cite most, passed on from one place. Declares nothing.
pub use Rattle.std.proofs.Common.{◌≡◌, ◌∙◌, refl, ap, sym, List, ℕ, length, Ok, ◌∷◌, Err, [], arith, inl, true, subst, Bool, drop, ◌≤◌, false, Some, ◌++◌, Option, ◌+◌, inr, ◌-◌, Result, None, append-nil, take, ◌<◌, append_assoc, not, length-append, ◌⊎◌, take-add, map, suc, get_or, drop-drop, length-drop, ◌≢◌, vec_len, zero, nat_lt, add-one}
pub use Rattle.std.proofs.lemmas.Bool.{cond_both}
pub use Rattle.std.proofs.lemmas.List.{drop_all, take-append-drop, take-take, nil_from_length}
pub use Rattle.std.specs.Io.KnownBytes.{IsAtEnd, Keeps, Consumes}
pub use Rattle.std.specs.List.{onto_first, filter_map, AllByRecursion}
pub use Rattle.std.specs.Prelude.{slice_range, IfSome, max, ◌&&◌, ◌||◌, option_map, ◌==◌, reverse}
pub use Rattle.krb_ktutil.specs.InputLines.{HasNone, Grows, lines_of, InputParts, IsFirst, IsWithin, IsSpent, CutsOff, HasNoMore, ReadsLine, with_newlines}
pub use Rattle.krb_ktutil.specs.KtutilCommand.{Awaited, options_in, AwaitKey, asks_for_password, Command, WriteFile, after, command_of, ReadFile, with_option, columns_in, AddOptions, is_new_key, plain_columns, has_password, no_options, words, unindented, size_from, word_size, trimmed, parts_from, is_word, is_blank, fault_error}
pub use Rattle.krb_ktutil.specs.KtutilPlan.{placed_entries, put_result, Refusal, line_effect, ComesDue, EndsAt, IsCame, Spares, MakesLine, Tries, RefusesAdded, Attempts, RunsOut, Comes, KtutilState, with_added, Added, none_added, plan_of, Came, line_faults, fails, after_fault, with_entries, LinePlan, words_plan, plan_by, command_plan, written_to, writing_plan, Awaiting, Nothing, Key, Fails, Effect, is_other_type, has_type, Answer, Ends, Loads, by, Holds, Ghosts, KeytabState, entries, store_of, LineFault, Code, Keytab, Order, LineRefusal, RunError}
pub use Rattle.krb_ktutil.specs.KtutilTalk.{RunEnd, World, Prompts, prompt_of, PromptsOn, Talk, first_talk, goes_on, HandlesLine, TalksOver, AreFirst, EndsTalk, RunsKtutil, HandlesNext, Finishes, ErrorWatch, ReportsEnd, error_status, input_error, is_failed, Source, most_bytes, follow, LoadFault, Details}
pub use Rattle.krb_driver.proofs.Shown.{end_status-none, Writes-nothing}
pub use Rattle.krb_driver.specs.Loading.{keytab_or_empty, keytab_in, EndsLoads, GivesOrIsSpent}
pub use Rattle.krb_keytab.specs.Entry.{EntryParts, entry_at}
pub use Rattle.krb_driver.proofs.Running.{finishes-keeps, finishes-lasts}
pub use Rattle.std.proofs.lemmas.Grind.{common_steps, flat_map-append}
pub use Rattle.krb_files.proofs.Reading.{Consumes-trans}
pub use Rattle.std.proofs.Math.Seq.{drop-cons}
pub use Rattle.krb_files.proofs.Prefixes.{Appends-trans, AppendsPrefix-after, AppendsPrefix-all}
pub use Rattle.krb_text.specs.LineFault.{Reads}
pub use Rattle.krb_keytab.proofs.Cited.{nat_tests, Record, records}
pub use Rattle.krb_driver.proofs.Cited.{err_from_is_err_and, end_status, TurnsHold, Lasts, comes, loaded-lasts}
