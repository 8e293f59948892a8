use Rattle.krb_driver.proofs.Cited.{◌≡◌, ◌-◌, slice_get}
use Rattle.krb_text.specs.Word.{pieces}
use Rattle.krb_driver.proofs.first_word.line_at.Given as goal

-- the line is at that place of the lines to come
abbrev pub invariant-lines : goal.invariant-lines
invariant-lines l = slice_get l.line-iterator l.before ≡ slice_get (pieces 10 l.script) (l.number - 1)
