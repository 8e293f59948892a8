-- The names that answers cite most, passed on from one place. Declares nothing.
pub use Rattle.krb_driver.proofs.Cited.{Adds, Bool, FileName, Keytab, List, None, Some, [], any, ap, arith, drop, drop_all, each, ending_words, err_from_is_err_and, etype_option, false, first_round, found_fault_words, made_effect, map, map_push, mistake_parts, near_words, not, not_for_memory, option_map, principal_parts, printed_name, refl, result_err, selected_etypes, spelled_etypes, spelled_pattern, subst, sym, vec_items, words_if, ℕ, ◌&&◌, ◌++◌, ◌∙◌, ◌≡◌}
pub use Rattle.krb_driver.proofs.Making.{tries_by}
pub use Rattle.krb_driver.proofs.Rounds.{Leads, last_one, one_more}
pub use Rattle.krb_driver.proofs.Shown.{Adds-none, adds_number, adds_sent, adds_then, sends_put, writes_one, Writes-two, unshown_end}
pub use Rattle.krb_driver.proofs.Running.{ends_finished}
pub use Rattle.krb_driver.proofs.Spelled.{lists_more, mapped_err, mistake_here, mistake_of, mistakes_left, no_fault, no_mistake, value_if_ok, values_more}
pub use Rattle.krb_driver.proofs.Words.{quoted_hidden}
