-- The names that the proofs cite most, passed on from one place. Declares nothing.
pub use Rattle.std.proofs.Common.{◌≡◌, ◌+◌, ◌-◌, append_assoc, append-nil, ◌⊎◌, inl, inr, length, ◌++◌, ◌∙◌, ap, ℕ, List, [], ◌∷◌, drop, sym, subst, get_or, map, drop-cons, add-one, Bool, true, false, cond, not, refl, arith}
pub use Rattle.std.proofs.lemmas.List.{drop_all, drop_more}
pub use Rattle.std.proofs.lemmas.Result.{on_ok_weaker}
pub use Rattle.krb_text.proofs.Passing.{gathered_then}
pub use Rattle.std.specs.List.{flat_map, fold, list_any}
pub use Rattle.krb_ccache.specs.Store.{PlacedCredential, placed_credentials}
pub use Rattle.std.specs.Prelude.{codes, Option, unwrap_or, max, ◌==◌, ◌||◌, Some, replicate}
pub use Rattle.krb_keytab.specs.Find.{placed_entries, PlacedEntry}
pub use Rattle.krb_wire.proofs.Fields.{some_is, is_some_has}
pub use Rattle.krb_keytab.specs.Entry.{EntryParts, entry_at}
pub use Rattle.krb_show.specs.KeytabView.{LineKey, LineParts, line_key, lines_from, put_entry, key_row, line_cmp, spaced, with_number, name_count, grown, with_entry}
pub use Rattle.krb_show.specs.Lines.{AreSoFar}
pub use Rattle.krb_show.specs.Seen.{SeesSoFar}
pub use Rattle.krb_show.specs.Columns.{asked_width, cell_of, row_text, padded_width, widths_to, cells_behind}
pub use Rattle.krb_show.specs.CacheView.{ticket_row, tickets}
pub use Rattle.krb_keytab.specs.Entries.{entries_in}
pub use Rattle.std.specs.BTreeSet.{BTreeSet, contains}
pub use Rattle.std.specs.Ordering.{is_eq, nat_cmp}
pub use Rattle.krb_wire.specs.declared.format.KtFormat.{KtFormat}
pub use Rattle.krb_wire.specs.Names.{name_text}
pub use Rattle.krb_wire.specs.Spelling.{Parts}
pub use Rattle.krb_audit.specs.Ranks.{mapped_after, rank_of, RankParts}
