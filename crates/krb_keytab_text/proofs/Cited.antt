-- The names that the proofs cite most, passed on from one place. Declares nothing.
pub use Rattle.std.proofs.Common.{◌≡◌, ℕ, ap, List, ◌∙◌, refl, ◌++◌, sym, true, arith, ◌+◌, [], Err, ◌∷◌, Result, length, Ok, drop, Option, ◌≤◌, append_assoc, map, subst, length-append, Vec, vec_capacity}
pub use Rattle.std.proofs.lemmas.Result.{err_from_is_err_and, on_ok_weaker, on_err_weaker}
pub use Rattle.std.specs.List.{filter_map, flat_map}
pub use Rattle.std.specs.Prelude.{IsFalse, IsOk, ok_or, is_some, IsOkAnd, option_map}
pub use Rattle.krb_keytab_text.specs.Listing.{entry_line, entry_lines, slot_lines}
pub use Rattle.krb_text.specs.LineFault.{Reads}
pub use Rattle.krb_text.specs.Word.{pieces, number_word, etype_word, name_word}
pub use Rattle.krb_keytab_text.specs.Script.{faults_of, commands_read, commands_from, entry_of, Addition, is_command, TakesMemory, read_or_fault, ◌>>=◌, digits_of, RefusesScript, script_of, made}
pub use Rattle.krb_text.specs.declared.line_fault.LineFault.{LineFault}
pub use Rattle.krb_keytab.specs.Entry.{EntryParts, entry_at}
pub use Rattle.krb_wire.proofs.TextLemmas.{left_fails, Left, left_next}
pub use Rattle.krb_wire.specs.Text.{AppendedPart, Grew, HadNoRoom}
pub use Rattle.krb_wire.specs.Spelling.{Parts}
pub use Rattle.krb_text.specs.declared.line_fault.LineFault.TheVariants.{BadKey}
pub use Rattle.krb_text.specs.declared.line_fault.LineRefusal.{LineRefusal}
pub use Rattle.krb_text.specs.Etype.{key_in}
pub use Rattle.krb_walk.specs.ReplyContent.{content_of}
pub use Rattle.krb_keytab_text.specs.Reply.{reply_texts_by}
pub use Rattle.krb_text.specs.Gathered.{Passed}
