use Rattle.std.proofs.Common.{◌≡◌}
use Rattle.krb_text.specs.Word.{pieces}
use Rattle.krbfile.specs.DefaultNames.{user_of}
use Rattle.krbfile.proofs.default_name.user_in.Given as goal

-- the lines to come give the user that all lines give
abbrev pub invariant-lines : goal.invariant-lines
invariant-lines l = user_of l.line-iterator ≡ user_of (pieces 10 l.status)
