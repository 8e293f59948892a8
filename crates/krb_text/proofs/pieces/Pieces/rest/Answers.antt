use Rattle.krb_text.proofs.Cited.{◌∙◌, ap, option_copied, joined}
use Rattle.krb_text.proofs.Cuts.{joined_left}
use Rattle.krb_text.proofs.pieces.Pieces.rest.Goals as goal

pub returns : goal.returns
returns g c = joined_left g.row.AT (option_copied c.self.inside.rest) ∙ ap (joined g.row.AT) c.self.view_is
