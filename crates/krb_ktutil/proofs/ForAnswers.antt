-- The names that answers cite most, passed on from one place. Declares nothing.
pub use Rattle.krb_ktutil.proofs.Cited.{Appends-trans, AppendsPrefix-after, AppendsPrefix-all, false, Added, Awaited, Bool, EntryParts, Err, HasNone, Key, Keytab, KtutilState, List, Nothing, Ok, Source, Talk, add-one, ap, arith, drop, drop-cons, end_status, end_status-none, entries, err_from_is_err_and, error_status, first_talk, goes_on, inl, input_error, is_failed, is_other_type, keytab_in, keytab_or_empty, length, line_effect, max, nat_tests, none_added, refl, suc, sym, with_added, with_entries, words, written_to, ◌++◌, ◌-◌, ◌||◌, ◌∙◌, ◌∷◌, ◌≡◌}
pub use Rattle.krb_ktutil.proofs.InputLemmas.{Grows-trans, HasNone-earlier, HasNone-grown, HasNone-sooner, IsFirst-earlier, none_up_to, ReadsLine-first, ReadsLine-last}
pub use Rattle.krb_ktutil.proofs.KtutilDue.{handles}
pub use Rattle.krb_ktutil.proofs.KtutilHandles.{all_entries, entries_of, makes_given, refuses_added}
pub use Rattle.krb_ktutil.proofs.KtutilLemmas.{Prompts-first, RunsKtutil-after, RunsKtutil-in_line, RunsKtutil-unread, Underway, Underway-first, Underway-line}
pub use Rattle.krb_ktutil.proofs.WordLemmas.{first_word, no_words, options_in_word, size_from-step}
