-- The names that the proofs cite most, passed on from one place. Declares nothing.
pub use Rattle.std.proofs.Common.{◌++◌, ◌∙◌, ap, ℕ, codes, List, drop, sym, ◌∷◌, append_assoc, get_or, drop-cons, add-one, Err, ◌≡◌, [], subst, false}
pub use Rattle.std.proofs.lemmas.Result.{err_from_is_err_and, on_ok_weaker}
pub use Rattle.std.specs.Prelude.{IsFalse, option_copied, ◌==◌}
pub use Rattle.krb_text.proofs.Passing.{passed_send, passed_gather, gathers_fails, gathers_memory, gathers_prints, passed_none, gathers_write, gathered_three, gathered_then}
pub use Rattle.krb_cache_text.specs.Listing.{credential_lines, lines_of_credentials}
pub use Rattle.krb_wire.proofs.TextLemmas.{Left, left_fails}
pub use Rattle.krb_text.specs.Escape.{escaped_text}
pub use Rattle.krb_keytab_text.proofs.Made.{made_refused}
