use Rattle.std.proofs.Common.{arith, sym, ◌∙◌}
use Rattle.std.proofs.lemmas.Str.{IsCharBoundary-at_seam, chars_past_char, encodes-chars}
use Rattle.krb_command_line.proofs.bundle.first_letter.Goals as goal

pub split_at-requires : goal.split_at-requires
split_at-requires c = rw c.len_utf8.ensures.len (IsCharBoundary-at_seam _ _ _ (sym c.chars-rest.ensures.rest ∙ c.in_ok-letter.ensures.steps.0) (rw c.as_str-others.ensures at c.as_str-others.utf8))

pub returns-clause-letters : goal.returns-clause-letters
returns-clause-letters c = let is = chars_past_char _ _ _ c.utf8.letters (sym c.chars-rest.ensures.rest ∙ c.in_ok-letter.ensures.steps.0) in grind (arith, is)

pub returns-clause-others : goal.returns-clause-others
returns-clause-others c = encodes-chars _ c.as_str-others.utf8
