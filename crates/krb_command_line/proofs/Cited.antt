-- The names that the proofs cite most, passed on from one place. Declares nothing.
pub use Rattle.std.proofs.Common.{◌≡◌, drop, ◌++◌, map, string_bytes, take, length}
pub use Rattle.krb_command_line.specs.Words.{double_equals, doubled_words, mistake_after, mistake_behind, bundled_value, value_in, long_names}
pub use denote.Shadow.{shadow}
pub use denote.Text.{Utf8}
