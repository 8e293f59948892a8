use Rattle.krb_driver.proofs.Cited.{◌≡◌, drop, map, take, IfOk, Ok, result_err, each, selected_etypes, spelled_etypes}
use Rattle.krb_driver.proofs.command_line.spelled.spelled_etypes.Given as goal

-- the words that are left have the mistakes of all, and the types so far are those that the words before select
abbrev pub invariant-words : goal.invariant-words
invariant-words g l =
    (result_err (each selected_etypes (map (λ word. word.now) (drop l.word-index l.words))) ≡ result_err (each selected_etypes (map (λ word. word.now) l.words)))
    × IfOk l.etypes (λ e. spelled_etypes (map (λ word. word.now) (take l.word-index l.words)) ≡ Ok e.items)
