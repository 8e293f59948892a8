use Rattle.krb_ccache.proofs.ImageLemmas.{image_parts, reopens}
use Rattle.krb_ccache.proofs.open.as_spelling.Goals as goal

pub returns-clause-spelled : goal.returns-clause-spelled
returns-clause-spelled c = (image_parts c.args.layout c.args.image.now c.bytes_fit.ensures c.requires).spells

pub returns-clause-reopens : goal.returns-clause-reopens
returns-clause-reopens c = λ limit le. reopens c.args.layout limit c.args.image.now c.requires le
