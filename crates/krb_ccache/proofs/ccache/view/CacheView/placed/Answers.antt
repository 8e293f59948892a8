use Rattle.krb_ccache.proofs.ImageLemmas.{image_parts, first_ahead, image_credentials}
use Rattle.krb_ccache.proofs.ccache.view.CacheView.placed.Goals as goal

pub between-requires-clause-ahead : goal.between-requires-clause-ahead
between-requires-clause-ahead c = let i = c.self.inside in first_ahead i.layout i.image.now (image_parts i.layout i.image.now c.bytes_fit.ensures c.self.invariant)

pub returns : goal.returns
returns c = let i = c.self.inside in image_credentials i.layout i.image.now c.between.result.now c.args.self.now c.bytes_fit.ensures c.self.invariant c.self.view_is c.between.ensures
