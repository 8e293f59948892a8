-- The names that answers cite most, passed on from one place. Declares nothing.
pub use Rattle.krb_json.proofs.Cited.{ABOUT_ENTRIES, PlacedCredential, [], ap, arith, begin_object, boolean, codes, config_name, cons_option, end_object, entry_finding, entry_findings, entry_value, entry_values, err_from_is_err_and, gathers_fails, gathers_prints, key, length, map, member_tokens, missing_value, name_text, number_of, on_ok_weaker, placed_credentials, shown_by, shown_values, string, take_all, text_member, ◌<◌, ◌∙◌, ◌∷◌, ◌≤◌, name_finding, match_value, ◌≡◌, integer_or_null, option_map, pos, rules, sym}
pub use Rattle.krb_json.proofs.Adding.{AddsSome, adds_all, adds_fails, adds_more, adds_next, adds_no_more, adds_none, adds_stop, adds_two, cons_front, missing_are, prints_memory, gathers_two_fails, gathers_then_memory, gathers_three}
pub use Rattle.krb_json.proofs.ReadBack.{cache_is_read, check_is_read, entry_finding_flat, file_finding_flat, keytab_is_read, match_flat, match_is_read, missing_flat, name_finding_flat}
pub use Rattle.krb_json.proofs.Wholes.{cache_text, check_text, keytab_text, match_text}
