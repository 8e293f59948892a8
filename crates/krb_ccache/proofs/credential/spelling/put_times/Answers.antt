use Rattle.krb_ccache.proofs.Cited.{puts_then}
use Rattle.krb_ccache.proofs.credential.spelling.put_times.Goals as goal

pub returns : goal.returns
returns c = puts_then c.put_u32.ensures (puts_then c.put_u32-2.ensures (puts_then c.put_u32-3.ensures c.put_u32-4.ensures))
