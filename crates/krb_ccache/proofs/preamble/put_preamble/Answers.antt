use Rattle.krb_ccache.proofs.Cited.{puts_then}
use Rattle.krb_ccache.proofs.SpellingLemmas.{fits_spelled}
use Rattle.krb_ccache.proofs.preamble.put_preamble.Goals as goal

pub put_cc_principal-requires-clause-spelled : goal.put_cc_principal-requires-clause-spelled
put_cc_principal-requires-clause-spelled g c = fits_spelled (g.N.Name.parts c.args.principal.now) c.requires.fits

pub returns : goal.returns
returns g c = puts_then c.put_u8.ensures (puts_then c.put_u8-2.ensures (puts_then c.put_header.ensures c.put_cc_principal.ensures))
