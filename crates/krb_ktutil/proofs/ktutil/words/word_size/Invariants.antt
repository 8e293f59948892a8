use Rattle.krb_ktutil.proofs.Cited.{◌≡◌, ◌+◌, drop, size_from, word_size}
use Rattle.krb_ktutil.proofs.ktutil.words.word_size.Given as goal

abbrev pub invariant-loop-size : goal.invariant-loop-size
invariant-loop-size l = l.size + size_from (drop l.size l.text) l.is_quoted ≡ word_size l.text
