-- The names that the proofs cite most, passed on from one place. Declares nothing.
unfoldable pub use Rattle.krb_json.specs.Cache.{own_members, size_members, flag_members, time_members, ticket_value, party_members, cache_members, cache_value, config_value}
unfoldable pub use Rattle.krb_json.specs.Check.{check_members, about_members, check_value, refused_value, name_members}
unfoldable pub use Rattle.krb_wire.specs.Controls.{escaped}
unfoldable pub use Rattle.krb_json.specs.Escaped.{text_from}
unfoldable pub use Rattle.krb_json.specs.Keytab.{entry_value, keytab_value, key_members, owner_members}
unfoldable pub use Rattle.krb_json.specs.Members.{file_members, etype_members, text_member}
unfoldable pub use Rattle.krb_json.specs.Matches.{judgement_members, match_members, matches_value, ticket_numbers}
unfoldable pub use Rattle.krb_json.specs.Summary.{summary_value}
unfoldable pub use Rattle.json.specs.Lex.{lex}
unfoldable pub use Rattle.json.specs.Print.{print_from, ArePrintable, escape_byte}
pub use Rattle.std.proofs.Common.{◌++◌, ◌∙◌, [], sym, ap, ◌≡◌, ◌∷◌, false, List, ℕ, codes, refl, Bool, append_assoc, Some, true, subst, None, Option, cond, ◌<◌, ◌≤◌, arith, append-nil, length, ◌^◌, map, rules, option_and_then, suc, inr, fold, inl, take, ◌==◌, ◌%◌, Err, IsAscii, ◌&&◌, IsUtf8, ◌+◌, ap₂, Ok, Result, zero, drop, ◌/◌, Bor, get_or, ℤ, pos, option_map, w64, w32, to_z, of_z}
pub use Rattle.std.proofs.lemmas.Bool.{lt-ltb, and_parts, ltb-true, or_parts, cases_Bool, cases_eq, and_from, false_from_ne_true}
pub use Rattle.std.proofs.lemmas.Bool.Decides.{nat_tests}
pub use Rattle.std.proofs.lemmas.Result.{on_ok_weaker, err_from_is_err_and, on_err_weaker, IfOk-weaker}
pub use Rattle.std.specs.List.{flat_map, list_any, cons_option, prefix_len}
pub use Rattle.std.specs.Prelude.{IsFalse, ltb, filter, ⊤, slice_index_or, ◌||◌, not, nat_lt, nat_le}
pub use Rattle.std.specs.Str.{is_utf8}
pub use Rattle.krb_json.specs.Cache.{text_or_null_member, offset_value, integer_or_null, name_of_etype, config_values, ticket_values, shown_values, cache_json_text, shown_by}
pub use Rattle.krb_json.specs.Check.{mode_value, finding_value, missing_value, entry_finding, entry_findings, finding_values, check_json_text, name_finding}
pub use Rattle.krb_wire.specs.Controls.{added, escape, is_second}
pub use Rattle.krb_wire.specs.declared.controls.Style.TheVariants.{Json as in_json}
pub use Rattle.krb_json.specs.Escaped.{json_text, shown, text_of, within}
pub use Rattle.krb_json.specs.Keytab.{entry_values, keytab_json_text}
pub use Rattle.krb_json.specs.Members.{number_of, Member, object_of, members_of, text_or_null, fault_value, array_of, digits_of, optional}
pub use Rattle.krb_json.specs.Pieces.{elements_text, ArePlain, member_tokens, head_tokens, between_tokens, element_text, tokens_of, tail_tokens, arrays_text, Adds, AddsAfter, Begins}
pub use Rattle.krb_json.specs.declared.elements.Elements.{Elements}
pub use Rattle.json.specs.Json.{Json, document, if_last, max_depth, value}
pub use Rattle.json.specs.Token.{key, begin_object, string, Token, begin_array, end_object, end_array, null, boolean, number, bad}
pub use Rattle.json.specs.Tree.{json_tokens, depth, HasNumbers, members_tokens, members_depth, items_depth, items_tokens}
pub use Rattle.krb_ccache.specs.Config.{config_name, ConfigParts}
pub use Rattle.krb_ccache.specs.Store.{placed_credentials, CacheState, PlacedCredential, version_byte}
pub use Rattle.krb_text.proofs.Passing.{gathers_memory, gathers_prints, passed_none, gathers_fails, passed_fail, passed_last}
pub use Rattle.krb_text.specs.Gathered.{Passed, Prints, Gathers}
pub use Rattle.krb_wire.specs.Names.{name_text}
pub use Rattle.std.specs.Char.{is_ascii_digit, digit_char, encode_utf8}
pub use Rattle.std.proofs.lemmas.Grind.{flat_map-append, common_steps}
pub use Rattle.std.proofs.lemmas.List.{take-append-drop, take_more, flat_map_more, take_all}
pub use Rattle.std.proofs.lemmas.List.Sums.{fold-append}
pub use Rattle.krb_files.specs.declared.output.OutFault.{OutFault}
pub use Rattle.krb_files.specs.Bytes.{Watch}
pub use Rattle.krb_text.specs.Etype.{etype_name_of}
pub use Rattle.krb_walk.specs.Store.{fault_of}
pub use Rattle.krb_keytab.specs.Store.{KeytabState, store_of}
pub use Rattle.krb_audit.specs.CheckUp.{CheckParts}
pub use Rattle.krb_findings.specs.declared.finding.TheConstants.{ABOUT_ENTRIES}
pub use Rattle.std.proofs.lemmas.Str.{IsUtf8-from_is_utf8, is_utf8-from_IsUtf8, IsUtf8-from_ascii, encode_ascii, digit_value-digit_char}
pub use Rattle.krb_text.specs.Flags.{flag_table, is_set, flag_letters_of}
pub use Rattle.json.specs.Value.{items_of}
pub use Rattle.krb_ccache.specs.Header.{offset_in}
pub use Rattle.krb_ccache.specs.Ticket.{ticket_encryption, ticket_server}
pub use Rattle.json.proofs.Printed.Strings.{content-escape, lex-escape}
pub use Rattle.json.proofs.Numbered.{ArePrintableOrBad-tokens, value-HasNumbers}
pub use Rattle.json.proofs.Printed.Trees.{value-json_tokens, ArePrintable-json_tokens, document-print}
pub use Rattle.json.specs.Lex.{tokens, Lexeme, between, token, comma, colon, string_token, punctuate, fresh, in_string}
pub use Rattle.json.specs.Print.{IsNumber, ends, ends_value, print, escape as json_escape, token_text, begins, IsPrintable, escape_letter, separator, IsPrintableOrBad, ArePrintableOrBad}
pub use Rattle.krb_json.specs.Matches.{match_value, match_json_text, etypes_value, found}
pub use Rattle.krb_match.specs.Tickets.{MatchedParts}
pub use Rattle.krb_walk.specs.declared.fault.Fault.{Fault}
