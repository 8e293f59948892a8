use Rattle.krb_readers.proofs.Cited.{◌≡◌, drop, fold, words_of, words_with, MatchedParts}
use Rattle.krb_readers.proofs.ktmatch.verdict.words_of.Given as goal

-- the words so far with those of the other tickets are those of all
abbrev pub invariant-tickets : goal.invariant-tickets
invariant-tickets g l = fold (λ words t. words_with words l.quiet (MatchedParts.judgement t)) l.words (drop l.ticket-index l.tickets) ≡ words_of l.quiet l.tickets
