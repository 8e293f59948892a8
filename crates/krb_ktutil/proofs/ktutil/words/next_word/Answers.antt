use Rattle.krb_ktutil.proofs.ForAnswers.{arith, nat_tests, first_word, no_words}
use Rattle.krb_ktutil.proofs.ktutil.words.next_word.Goals as goal

pub returns-then-is_empty : goal.returns-then-is_empty
returns-then-is_empty c = no_words c.args.line.now c.unindented-text.result.now c.unindented-text.ensures.same (grind (arith, nat_tests))

pub split_at-requires : goal.split_at-requires
split_at-requires c =
    (first_word c.args.line.now c.unindented-text.result.now c.word_size-size.result c.unindented-text.ensures.same c.word_size-size.ensures (grind (arith, nat_tests))).within

pub returns : goal.returns
returns c =
    let word = first_word c.args.line.now c.unindented-text.result.now c.word_size-size.result c.unindented-text.ensures.same c.word_size-size.ensures (grind (arith, nat_tests)) in
    let begun = word.begun in
    let within = word.within in
    let back = c.split_at.ensures.back_len in
    (rw (c.split_at.ensures.front, c.split_at.ensures.back) word.cut, omega (arith, c.unindented-text.ensures.within))
