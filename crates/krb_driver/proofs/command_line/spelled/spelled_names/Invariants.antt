use Rattle.krb_driver.proofs.Cited.{◌≡◌, drop, map, take, IfOk, Ok, result_err, vec_items, each, printed_name}
use Rattle.krb_driver.proofs.command_line.spelled.spelled_names.Given as goal

-- the words that are left have the mistakes of all, and the values so far are those that the words before spell
abbrev pub invariant-words : goal.invariant-words
invariant-words g l =
    (result_err (each printed_name (map (λ word. word.now) (drop l.word-index l.words))) ≡ result_err (each printed_name (map (λ word. word.now) l.words)))
    × IfOk l.names (λ e. each printed_name (map (λ word. word.now) (take l.word-index l.words)) ≡ Ok (map vec_items e.items))
