use Rattle.krb_command_line.proofs.Cited.{◌≡◌, ◌++◌, drop, map, string_bytes, take, double_equals, doubled_words}
use Rattle.krb_command_line.proofs.equals.double_equals.Given as goal

-- the words so far, and what those to come become
abbrev pub invariant-words : goal.invariant-words
invariant-words l = map string_bytes (take l.word-index l.words) ++ doubled_words l.options (map string_bytes (drop l.word-index l.words)) ≡ double_equals l.krbfile l.initial.words
