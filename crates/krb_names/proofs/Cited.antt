-- The names that the proofs cite most, passed on from one place. Declares nothing.
pub use Rattle.std.proofs.Common.{◌≡◌, ◌∙◌, sym, ap, subst, refl, arith, rules, ℕ, ◌+◌, ◌<◌, ◌⊎◌, inl, inr, Bool, true, false, cond, List, [], ◌∷◌, ◌++◌, length, take, map, get_or, Result, Ok, Err, Option, Some, None, replicate, ◌-◌}
pub use Rattle.std.specs.List.{fold, All, list_any, dedup, dedup_from}
pub use Rattle.std.specs.Prelude.{◌||◌, ◌&&◌, ◌==◌}
pub use Rattle.std.specs.Str.{bytes_eq}
pub use Rattle.std.specs.Vec.{vec_items}
pub use Rattle.krb_names.specs.Hash.{HashedName, hash_of, name_cmp, with_number, hash_of_words}
pub use Rattle.krb_names.specs.Set.{AreHashed, is_among, is_place, HaveSameNames, IsAlone}
pub use Rattle.krb_names.specs.Marks.{has_mark, with_mark}
pub use Rattle.std.proofs.lemmas.List.{take_all, ext_get_or, get_or-map, get_or-set_other, get_or-set_same, get_or_default, length-map, length-set}
pub use Rattle.std.proofs.lemmas.List.Kept.{IsStrictlySortedBy-dedup, Contains-from_dedup}
pub use Rattle.std.proofs.lemmas.List.Sorted.{All-permutation, list_any-IsPermutation, searchable_from_sorted}
pub use Rattle.std.proofs.lemmas.Bool.{eq-eqb, eqb-true, ne_eqb, and_parts, cases_lt, cases_order}
pub use Rattle.std.proofs.lemmas.List.Folds.{Any-from_list_any, list_any_at, list_any_none}
pub use Rattle.std.proofs.lemmas.Slice.Eq.{bytes_eq-Decides}
pub use Rattle.std.specs.Option.{is_some}
pub use Rattle.std.proofs.lemmas.Cmp.{nat_cmp_total, on_total, then_total, alike_right, nat_list_eq_equiv}
pub use Rattle.std.specs.Ordering.{eq_by_cmp, is_eq, is_lt, ordering_reverse}
