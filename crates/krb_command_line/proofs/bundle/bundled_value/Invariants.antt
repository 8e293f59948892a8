use Rattle.krb_command_line.proofs.Cited.{◌≡◌, length, bundled_value, value_in, shadow, Utf8}
use Rattle.std.specs.Str.{chars}
use Rattle.krb_command_line.proofs.bundle.bundled_value.Given as goal

-- the letters to come have the value of all letters
abbrev pub invariant-letters : goal.invariant-letters
invariant-letters l = shadow (Utf8 l.letters) × (value_in l.options l.word (chars l.letters) ≡ bundled_value l.options l.word)

abbrev pub decreases-letters : goal.decreases-letters
decreases-letters l = length l.letters
