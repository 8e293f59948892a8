-- The names that the proofs cite most, passed on from one place. Declares nothing.
pub use Rattle.std.proofs.Common.{◌∙◌, ◌≡◌, sym, List, ap, ℕ, take, arith, ◌++◌, refl, length, Bool, [], subst, ◌∷◌, ◌≤◌, ◌<◌, true, drop, false, inl, map, ◌+◌, Option, None, inr, ◌⊎◌, get_or, append-nil, Some, Ok, ◌-◌, Result, Bor, Err, append_assoc, eqb, length-drop, length-append, ◌≢◌, cond, add-one, not}
pub use Rattle.std.proofs.lemmas.Bool.{true≢false, false≢true, le-leb, eqb-true, eq-eqb, or_left, or_right}
pub use Rattle.std.proofs.lemmas.List.{take_all, length-map, drop_more, map-id, drop_all, map_push, take_more}
pub use Rattle.std.specs.List.{flat_map, range_with_len, list_all}
pub use Rattle.std.specs.Prelude.{option_map, codes, IsOk, IfOk, if◌then◌else◌, slice_get, ◌==◌, ◌&&◌, MatchOption, IsFalse, IsTrue, is_ok, ◌||◌, OnOk, OnErr, is_err, IsOkAnd, Vec}
pub use Rattle.krb_driver.specs.Commands.{ShowsEnd, MakesFairly, Takes, FairOver, Settles, EndsCommand, Keeps, fair_first, ShowsPage, GivesOf, of_file, Finishes, Makes, GivesLoaded, CommandPlan, Effect, IsSpent, Fails, Page, opens, Saves, saved_end, settled, Displays, IsMade, text, files_after, goes_on, tries, effect_by, if_unread, ending_of, any}
pub use Rattle.krb_driver.specs.Composing.{ready_end, made_effect, Opens, HoldsIf, faults, EndsAfter, Tries}
pub use Rattle.krb_driver.specs.Runs.{ErrorWatch, Writes, Run, ends_by, Shows, Adds, Underway, Sends, words_if, near_words}
pub use Rattle.krb_driver.specs.Hints.{quoted_byte, etype_option, operand_text, is_alike}
pub use Rattle.krb_driver.specs.Messages.{piece_text, key_from, key_start, byte_text, hidden_word, may_be_key, quoted_word, shown_byte, has_key, message}
pub use Rattle.krb_files.specs.Bytes.{Watch, AppendsPrefix}
pub use Rattle.krb_files.specs.declared.files.Files.{Ghosts}
pub use Rattle.krb_driver.specs.declared.file_name.FileName.{FileName}
pub use Rattle.krb_files.specs.Loading.{Answer, SavesFile, TurnsHold}
pub use Rattle.krb_files.specs.Plan.{Ends, HeldIf, Holds, Loaded, Loads, Faults, by, follow}
pub use Rattle.krb_files.proofs.PlanLaws.{loaded-none, Lasts, comes, count-more, count-trans, loaded-lasts, same-trans, with_bytes-set}
pub use Rattle.krb_driver.specs.EndingWords.{ending_words, word_line, failure_words, found_fault_words}
pub use Rattle.krb_driver.specs.RunErrors.{Ending, end_status, ending_status, is_spent, is_unread}
pub use Rattle.krb_driver.specs.declared.verdict.Verdict.{Verdict}
pub use Rattle.krb_driver.specs.FileNames.{name_byte, stripped}
pub use Rattle.krb_walk.specs.ReplyContent.{content_of}
pub use Rattle.krb_driver.specs.Several.{first_round, Round, RunsFile, RunsOver, is_last}
pub use Rattle.krb_driver.specs.Mistakes.{word_text, MistakeParts, mistake_parts}
pub use Rattle.krb_driver.specs.declared.command.RunEnd.{RunEnd}
pub use Rattle.krb_driver.specs.declared.verdict.FileKind.TheVariants.{Keytab}
pub use Rattle.std.proofs.lemmas.List.FromFn.{map-range_with_len_more}
pub use Rattle.std.specs.Result.{result_err}
pub use Rattle.krb_driver.specs.Spelled.{◌>>=◌, SpellsInMemory, each, selected_etypes, spelled_etypes, printed_name, spelled_pattern}
pub use Rattle.std.specs.Vec.{vec_items}
pub use Rattle.std.proofs.lemmas.Result.{err_from_is_err_and}
pub use Rattle.krb_text.proofs.NameFaults.{not_for_memory}
pub use Rattle.krb_wire.specs.Reading.{principal_parts}
