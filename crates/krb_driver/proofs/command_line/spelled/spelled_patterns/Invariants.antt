use Rattle.krb_driver.proofs.Cited.{◌≡◌, drop, map, take, IfOk, Ok, result_err, principal_parts, each, spelled_pattern}
use Rattle.krb_driver.proofs.command_line.spelled.spelled_patterns.Given as goal

-- the words that are left have the mistakes of all, and the values so far are those that the words before spell
abbrev pub invariant-words : goal.invariant-words
invariant-words g l =
    (result_err (each spelled_pattern (map (λ word. word.now) (drop l.word-index l.words))) ≡ result_err (each spelled_pattern (map (λ word. word.now) l.words)))
    × IfOk l.patterns (λ e. each spelled_pattern (map (λ word. word.now) (take l.word-index l.words)) ≡ Ok (map principal_parts e.items))
