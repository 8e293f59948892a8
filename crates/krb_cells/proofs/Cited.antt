-- The names that the proofs cite most, passed on from one place. Declares nothing.
pub use Rattle.std.proofs.Common.{arith, ◌≡◌, length, sym, ◌∙◌, refl, ap, ℕ, List, ◌<◌, [], subst, ◌+◌, ◌≤◌, ◌∷◌, drop, ◌++◌, None, Option, Some, Bool, zero, map, suc, take, false, true, ◌-◌, append_assoc, inr, inl, eqb, length-append, cond, ◌^◌}
pub use Rattle.std.proofs.lemmas.Bool.Decides.{nat_tests, eqb_tells}
pub use Rattle.std.proofs.lemmas.List.{take-append-drop, drop-drop, drop_at, length-drop}
pub use Rattle.std.specs.List.{AllByRecursion, splice, flat_map}
pub use Rattle.std.specs.Prelude.{nat_le, is_some, option_copied, ◌==◌, IsSome}
pub use Rattle.krb_cells.specs.Carry.{given_at, between, new_place, new_after, new_width, AreGiven, Passes, whole, EncodesAt}
pub use Rattle.krb_cells.specs.Cells.{AreCells, HasCells, seen_in, cell_of}
pub use Rattle.krb_walk.specs.Store.{Store, Cell, is_place_from, end_from, is_place, IsPlace, end_of, live_bytes, Record, stop_of, end_stop, stop_at, IsSound}
pub use Rattle.krb_wire.proofs.Fields.{IsBytes, is_some_has, wide32, number_again, Takes}
