-- The names that the proofs cite most, passed on from one place. Declares nothing.
unfoldable pub use Rattle.krb_text.specs.Calendar.{day_number}
pub use Rattle.std.proofs.Common.{◌≡◌, ℕ, ap, List, ◌∙◌, refl, ◌++◌, sym, true, arith, ◌+◌, [], Err, ◌∷◌, Result, length, Ok, drop, false, Some, None, Option, Bool, ◌<◌, ◌≤◌, append_assoc, map, suc, subst, add-one, rules, cond, ◌/◌, length-append, nat_lt, take, get_or, ◌%◌, drop-cons, ◌-◌, pos, IsSome, ◌⊎◌, zero, ◌≤ℤ◌, Bor, replicate, IfSome, ◌==◌, inr, take-append-drop, neg_ℤ, inl, append-nil, ◌+ℤ◌}
pub use Rattle.std.proofs.lemmas.Bool.{ltb-true, ltb-false, not_from_false, ne_eqb, and_parts, eqb-true}
pub use Rattle.std.proofs.lemmas.Result.{err_from_is_err_and, on_ok_weaker, on_err_weaker}
pub use Rattle.std.specs.List.{filter_map, AllByRecursion, list_all, list_any, slice_split, find, position_from}
pub use Rattle.std.specs.Option.{MatchOption}
pub use Rattle.std.specs.Prelude.{IsFalse, IsOk, if◌then◌else◌, ok_or, is_some, slice_get, option_copied, min, is_ok, unwrap_or}
pub use Rattle.std.specs.Result.{result_ok, MatchResult}
pub use Rattle.krb_text.specs.Flags.{letters_among, flag_letters_of, is_set}
pub use Rattle.krb_text.specs.Word.{pieces, joined, pieces_left, name_word}
pub use Rattle.hex.specs.Hex.{decode_of, is_hex_digit}
pub use Rattle.krb_wire.proofs.TextLemmas.{appended_part, left_fails, Left}
pub use Rattle.krb_wire.specs.Text.{Appended}
pub use Rattle.std.proofs.lemmas.Fmt.{length-decimal-le, IsAscii-from_digits}
pub use Rattle.krb_wire.specs.Spelling.{Parts}
pub use Rattle.krb_text.specs.declared.line_fault.LineFault.TheVariants.{BadName}
pub use Rattle.krb_text.specs.Etype.{key_in, is_key_size}
pub use Rattle.std.specs.Int.{IsInRange}
pub use Rattle.std.specs.Char.{is_ascii_hexdigit, is_ascii_digit}
pub use Rattle.std.proofs.lemmas.List.Sums.{AllPass-from_list_all, list_all-from_AllPass, count_by-le-length}
pub use Rattle.hex.proofs.HexLemmas.{decode_of-ok, decode_of-digits, length-encode_with}
pub use Rattle.std.proofs.lemmas.Int.{to_z_pos, ints}
pub use Rattle.krb_text.specs.Gathered.{Passed, Sent, Prints, Gathers}
pub use Rattle.jiff_core.proofs.DateLemmas.{epoch_day_injective}
pub use Rattle.jiff_core.proofs.CalendarLemmas.{days_from_civil-day_count, day_count-later_year, day_count-day_of_year, day_count-next_year, day_count-end}
pub use Rattle.krb_text.specs.Escape.{escaped_text}
