-- The names that the proofs cite most, passed on from one place. Declares nothing.
pub use Rattle.std.proofs.Common.{arith, length, ◌∙◌, ap, ◌≡◌, ◌≤◌, List, Some, ℕ, None, sym, take, ◌-◌, ◌+◌, Bool, refl, subst, ◌<◌, ◌++◌, Option, [], cond, drop, false, true, append_assoc, ◌∷◌, not, min, ◌⊎◌, zero, map, ◌≢◌, suc, get_or, inr, take-append-drop, vec_len, vec_capacity, inl, append-nil}
pub use Rattle.std.specs.Io.KnownBytes.{Appends, Consumes, Keeps}
pub use Rattle.std.specs.Prelude.{position, string_bytes, find, Err, IsFalse, option_map, slice_set, slice_index_or}
pub use Rattle.std.specs.Str.{bytes_eq}
pub use Rattle.krb_files.specs.Files.{SetsFile, loaded, CountsFailure, SameFiles, FileMap}
pub use Rattle.std.specs.List.{prefix_len}
pub use Rattle.std.proofs.lemmas.List.{map-append}
pub use Rattle.std.proofs.Math.Seq.{take-add}
pub use Rattle.std.proofs.lemmas.Slice.Eq.{bytes_eq-Decides}
pub use Rattle.krb_files.specs.MemFiles.{pairs_of, file_in, with_file}
