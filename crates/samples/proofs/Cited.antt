-- The names that the proofs cite most, passed on from one place. Declares nothing.
pub use Rattle.std.proofs.Common.{refl}
pub use Rattle.std.specs.List.{filter_map, list_any}
pub use Rattle.std.specs.Prelude.{◌≡◌, ◌+◌, ℕ, [], ◌∷◌, map, codes, true, false, None, Some, Ok, Err, ◌-◌, ◌*◌, List, ◌++◌, nat_lt, if◌then◌else◌, max, length, Bool, Option, option_map, unwrap_or, Result, slice_get, nat_eq, filter, ◌&&◌, replicate, pos, negsuc, ⊤}
pub use Rattle.krb_audit.specs.declared.selection.SelectedKvno.TheVariants.{Beyond}
pub use Rattle.krb_driver.specs.declared.verdict.Verdict.TheVariants.{Without, Well}
pub use Rattle.krb_editors.specs.Ccremove.{ended_by, ccremove_plan, TicketRemoval, ticket_removal_of}
pub use Rattle.krb_files.specs.Loading.{most_bytes}
pub use Rattle.krb_keytab.specs.Store.{KeytabState, open_result, empty}
pub use Rattle.krb_wire.specs.NameOf.{name_of}
pub use Rattle.krb_wire.specs.declared.format.KtFormat.TheVariants.{V2}
pub use Rattle.krb_wire.specs.declared.format.Order.TheVariants.{Little}
pub use Rattle.std.specs.Result.{result_unwrap_or, result_map_both, result_ok}
pub use Rattle.krb_walk.specs.Events.{SessionState, start_reply}
pub use Rattle.krb_walk.specs.ReplyContent.{ReplyContent, Started, Placed, Refused, Gave, Ended, Gone}
pub use Rattle.krb_ccache.specs.Changes.{empty_cache, create_result}
pub use Rattle.krb_wire.specs.Spelling.{Parts}
pub use Rattle.krb_files.specs.Files.{node_of, FileMap, loaded}
pub use Rattle.krb_text.specs.Etype.{etype_in, etype_text_of, key_size_of, is_weak}
pub use Rattle.krb_text.specs.Numbers.{seconds_in}
pub use Rattle.krb_driver.specs.declared.command.RunEnd.{RunEnd}
pub use Rattle.krb_driver.specs.declared.error.RunError.TheVariants.{FileNotWritten, NoSuchFile, NothingSelected, OtherType}
pub use Rattle.krb_driver.specs.declared.file_name.FileName.{FileName}
pub use Rattle.krb_driver.specs.declared.file_name.NameSource.TheVariants.{Word, Default, LikePrincipal}
pub use Rattle.krb_driver.specs.RunErrors.{Ending, ending_status, end_status, error_status, save_error, error_of_name}
pub use Rattle.krb_driver.specs.Runs.{ErrorWatch, ending_text, near_words, words_if}
pub use Rattle.krb_editors.specs.MissingFiles.{is_missing, missing_error}
pub use Rattle.krb_editors.specs.Removing.{is_none, seen_after}
pub use Rattle.krb_editors.specs.Ktremove.{needed_time, ktremove_plan, removal_of}
pub use Rattle.krb_ktutil.specs.KtutilTalk.{first_talk, goes_on}
pub use Rattle.krb_editors.specs.Hold.{most_frame, frame, held_in, received, file_kind as held_file_kind, hold_of}
pub use Rattle.krb_ccache.specs.Store.{CacheState, open_result as cache_result, image_of as cache_image}
pub use Rattle.krb_editors.specs.HoldEnds.{last_line, HoldEnd, about_end, ending_of as end_of_hold}
pub use Rattle.krb_driver.specs.Commands.{CommandPlan, of_file, Effect, Fails, Displays, Saves, files_after, opens}
pub use Rattle.krb_driver.specs.Loading.{result_map, result_map_err, whole_in}
pub use Rattle.krb_driver.specs.EndingWords.{found_fault_words}
