use Rattle.krb_names.proofs.Cited.{◌≡◌, take, hash_of_words}
use Rattle.krb_names.proofs.hash.hash_of_words.Given as goal

abbrev pub invariant-loop-word : goal.invariant-loop-word
invariant-loop-word l = l.hash ≡ hash_of_words (take l.word-index l.words)
