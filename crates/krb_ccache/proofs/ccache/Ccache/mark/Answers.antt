use Rattle.krb_ccache.proofs.Cited.{arith, take_at}
use Rattle.krb_ccache.proofs.StoreChanges.{mark_place}
use Rattle.krb_ccache.proofs.ccache.Ccache.mark.Goals as goal

pub invariant_of-self : goal.invariant_of-self
invariant_of-self g c = search (arith, take_at, mark_place)
