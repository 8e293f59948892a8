use Rattle.krb_ktutil.proofs.ForAnswers.{sym, ◌∙◌, words, options_in_word}
use Rattle.krb_ktutil.proofs.ktutil.options.AddOptions.take.Goals as goal

pub returns-clause-more : goal.returns-clause-more
returns-clause-more c =
    rw c.in_ok-word.ensures.0 (options_in_word c.args.self c.in_ok-with.field-0 c.args.option.now c.in_ok-word.word.now (words c.in_ok-word.others.now) (sym c.is_new_key.ensures ∙ c.if-is_new_key.false) (sym c.with.ensures ∙ c.in_ok-with.was))
