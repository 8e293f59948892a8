-- The names that answers cite most, passed on from one place. Declares nothing.
pub use Rattle.krb_match.proofs.Cited.{AreMatched, AreNoted, ArePlaced, Bool, Fitting, Group, IsSaid, KeytabState, List, MatchedParts, None, Option, Parts, PlacedCredential, PlacedEntry, Some, [], ap, append-nil, append_assoc, ap₂, arith, bare_key, bytes_eq, bytes_eq-Decides, cond, entry_key, etypes_from, filter, find, first_of, fitting_of, folded_key, get, group_cmp, group_in, has_name, hash_of, have_same_name, is_first_in, is_looked_at, is_some, judged_among, length, length_push, lesser, looked_at, map, matched, named, near_by, newest_version, not-false, on_ok_weaker, opener, option_map, option_or, placed_credentials, placed_entries, position_from, refl, slice_get, subst, sym, true, unwrap_or, vec_items, wanted, ℕ, ◌++◌, ◌+◌, ◌-◌, ◌==◌, ◌∙◌, ◌∷◌, ◌≡◌}
pub use Rattle.krb_match.proofs.Adding.{added, all_added}
pub use Rattle.krb_match.proofs.Noting.{no_more_etypes, no_turns, one_more_etype, firsts_before, group_added, none_noted, none_placed, noted, noted_next, placed_next}
pub use Rattle.krb_match.proofs.Judging.{class_opens, first_named, newest_is, no_etypes, not_opened, opener_is, some_etypes, united, wanted_is}
pub use Rattle.krb_match.proofs.Numbering.{among_is, keys_next, named_here, none_named}
pub use Rattle.krb_match.proofs.Places.{places_rise}
pub use Rattle.krb_match.proofs.Finding.{first_either, found_mapped, none_found}
