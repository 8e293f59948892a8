use Rattle.krb_ccache.proofs.Cited.{subst, Puts, puts_then}
use Rattle.krb_ccache.proofs.SpellingLemmas.{middle_is}
use Rattle.krb_ccache.proofs.credential.Cred.put_middle.Goals as goal

pub returns : goal.returns
returns g c =
    subst (Puts c.args.pen.now c.put_u32.new.self) (middle_is c.args.self.now _ c.deref.result.now c.times.result c.self.view_is c.deref.ensures.value c.times.ensures)
    (puts_then c.put_item.ensures (puts_then c.put_times.ensures (puts_then c.put_u8.ensures c.put_u32.ensures)))
