-- The names that the proofs cite most, passed on from one place. Declares nothing.
pub use Rattle.std.proofs.Common.{◌≡◌, arith, ap, length, ◌∙◌, List, sym, ℕ, ◌++◌, refl, ◌<◌, ◌+◌, [], subst, ◌≤◌, append_assoc, None, ◌∷◌, take, Some, ◌^◌, false, ◌-◌, drop, Bool, Option, true, map, cond, append-nil, rules, get_or, ltb, length-append, suc, ◌↔◌, Ok, eqb, ◌*◌, zero, Bor, ◌≢◌, inr, set, not, vec_capacity, inl, Result, Err, length-set, ◌||◌, Vec}
pub use Rattle.std.proofs.lemmas.Bool.{ltb-false, le-ltb, ltb-true, lt-ltb, cond-false, ne_eqb, and_parts, cases_lt}
pub use Rattle.std.proofs.lemmas.List.{take-append-drop, take_all, map-append, take-take, take_rest, take_more, drop_all, take_more_set}
pub use Rattle.std.proofs.lemmas.List.Concat.{flat_map-cons}
pub use Rattle.std.proofs.lemmas.Result.{err_from_is_err_and, on_err_weaker}
pub use Rattle.std.specs.Int.{w16, w32, byte_len, Width}
pub use Rattle.std.specs.List.{flat_map, AllByRecursion, All, filter_map, slice_split, onto_first, prefix_len, position, range_with_len, splice, list_all}
pub use Rattle.std.specs.Prelude.{option_map, IsTrue, IsSome, slice_get, option_copied, nat_lt, IfSome, ◌==◌, ⊤, ◌&&◌}
pub use Rattle.krb_wire.specs.Atoms.{atoms, after_at, before_at, is_slash, byte_of, is_special, atoms_after}
pub use Rattle.krb_wire.specs.NameOf.{after_first, first_component, faults_from, first_fault, realm_of, realm_fault, components_of, faults_of, component_fault, name_of, name_or_fault}
unfoldable pub use Rattle.krb_wire.specs.Names.{joined_components, quote}
pub use Rattle.krb_wire.specs.Names.{IsPlain, quoted_byte}
pub use Rattle.krb_wire.specs.Reading.{data_at, items_of, ◌>>=◌, list_end, list_at, number_at, list_in, ReadsAt, name_type_at, components_of_count, counted_at}
unfoldable pub use Rattle.krb_wire.specs.Reading.{data16_at, kt_principal_at, cc_principal_at, data32_at, components_at}
pub use Rattle.krb_wire.specs.Spelling.{IsLong, data32, IsShort, Parts, cc_principal, digits, data16, data_text, count_field, FitsLength, kt_principal, order_of, name_type_field, counted, name_fits, is_long, counted_realms, FitsCc, FitsKt, number, cc_name_fits, HasText, HasNameType, is_short}
pub use Rattle.krb_wire.specs.declared.atom.Atom.{Atom}
pub use Rattle.krb_wire.specs.declared.atom.Atom.TheVariants.{Byte, Slash, At, Lone}
pub use Rattle.krb_wire.specs.declared.format.Order.{Order}
pub use Rattle.krb_wire.specs.declared.format.Order.TheVariants.{Big, Little}
