use Rattle.krb_ccache.proofs.Cited.{ap, CacheState}
use Rattle.krb_ccache.proofs.ImageLemmas.{image_cells}
use Rattle.krb_ccache.proofs.ccache.view.CacheView.cells.Goals as goal

pub of-requires-clause-cells : goal.of-requires-clause-cells
of-requires-clause-cells c = image_cells c.self.inside.layout.version c.placed-first.result.1.now c.args.self.now c.placed-first.result.0 c.bytes_fit.ensures (ap (λ (k : CacheState). k.version) c.self.view_is) c.placed-first.ensures
