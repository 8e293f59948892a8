use Rattle.std.proofs.Common.{map, take}
use Rattle.krb_commands.specs.Actions.{AreNamed}
use Rattle.krb_commands.proofs.action.files_of.Given as goal

-- the names so far are those that the words so far give
abbrev pub invariant-words : goal.invariant-words
invariant-words g l = AreNamed l.kind l.with_at l.in_place (map (λ word. word.now) (take l.word-index l.words)) l.names.items
