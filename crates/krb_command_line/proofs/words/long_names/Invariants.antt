use Rattle.krb_command_line.proofs.Cited.{◌≡◌, ◌++◌, drop, map, long_names}
use Rattle.krb_command_line.proofs.words.long_names.Given as goal

-- the names so far and those to come are all names
abbrev pub invariant-words : goal.invariant-words
invariant-words l = map (λ name. name.now) l.names.items ++ long_names (drop l.word-index l.words) ≡ long_names l.words
