use Rattle.std.proofs.Common.{arith, drop, string_bytes, take}
use Rattle.std.proofs.lemmas.Grind.{common_steps}
use Rattle.std.proofs.lemmas.List.{map-append, set-get_or, take-append-drop}
use Rattle.krb_command_line.proofs.equals.double_equals.Goals as goal

pub returns-then-eq : goal.returns-then-eq
returns-then-eq c =
    let words = c.words.words in
    let i = c.words.word-index in
    grind (arith, common_steps, set-get_or words i c.word-item.result, take-append-drop i words, map-append string_bytes (take i words) (drop i words))
