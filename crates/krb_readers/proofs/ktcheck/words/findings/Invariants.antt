use Rattle.krb_readers.proofs.Cited.{◌≡◌, drop, map, fold, spelled_finding, spelled_findings, joined, result_map, each}
use Rattle.krb_readers.proofs.ktcheck.words.findings.Given as goal

-- what the words that are left add to the findings so far is what all spell
abbrev pub invariant-words : goal.invariant-words
invariant-words l =
    result_map (fold joined l.findings) (each spelled_finding (map (λ word. word.now) (drop l.word-index l.words))) ≡ spelled_findings (map (λ word. word.now) l.words)
