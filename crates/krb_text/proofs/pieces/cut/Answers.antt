use Rattle.std.proofs.Common.{sym, ◌∙◌}
use Rattle.krb_text.proofs.Cuts.{cut_some, cut_none}
use Rattle.krb_text.proofs.pieces.cut.Goals as goal

pub returns-in-Some : goal.returns-in-Some
returns-in-Some c = cut_some c.args.at c.in-Some.end c.args.text.now (sym c.end_of.ensures.is ∙ c.in-Some.is)

pub returns-in-None : goal.returns-in-None
returns-in-None c = cut_none c.args.at c.args.text.now (sym c.end_of.ensures.is ∙ c.in-None.is)
