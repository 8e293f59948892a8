-- The names that answers cite most, passed on from one place. Declares nothing.
pub use Rattle.krb_copy.proofs.Cited.{All, AllByRecursion, AreKeys, AreTexts, Bool, Copying, InMemory, IsMade, IsNumbering, IsRun, One, KeytabState, List, None, Option, Parts, PlacedEntry, Row, Run, Some, [], ap, append-nil, append_assoc, arith, as_found, asked_as, asked_texts, bytes_eq, bytes_eq-Decides, clash_line, cond, contains_by, copied_lines, copy_run, drop, drop_all, entry_texts, err_from_is_err_and, false, flat_map, get_or, has_among, lacks, length, length-replicate, length_push, map, name_in, name_text, name_texts, names_tie, new_in, nat_list_eq_equiv, not-false, placed_entries, principal_parts, put_result, refl, removed_line, renamed, rows_due, run_after, run_over, run_start, shown, subst, sym, take, take_all, take_at, take_more, to_key, true, unwrap_or, ℕ, ◌&&◌, ◌++◌, ◌+◌, ◌<◌, ◌==◌, ◌||◌, ◌∙◌, ◌∷◌, ◌≡◌, replicate, rules, are_twins, entry_of, IsClassKey, numbers_next, AreClasses, Held, map_push}
pub use Rattle.krb_copy.proofs.Alike.{twins_equiv}
pub use Rattle.krb_copy.proofs.ClassKeys.{key_of_fields, classes_agree}
pub use Rattle.krb_copy.proofs.ClassesAfter.{after_clash, after_copy, after_there, met, or_added, step_is, one_found}
pub use Rattle.krb_copy.proofs.DiffLines.{all_marked, as_long, first_added, get_or_none, key_added, key_known, none_added, row_below}
pub use Rattle.krb_copy.proofs.FoundTexts.{AreAppended, AreFound, new_names, one_asked, own_names, one_further, texts_more}
pub use Rattle.krb_copy.proofs.Numbers.{drop_here, one_more, row_is, take_here}
pub use Rattle.krb_copy.proofs.Runs.{IsOnTheWay, all_met, copied_run, ended, first_left, one_met, refusal_is, refused_run}
