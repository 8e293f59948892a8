use Rattle.std.proofs.Common.{sym}
use Rattle.krb_keytab.proofs.Removals.{found_is_cut}
use Rattle.krb_keytab.proofs.Stores.{state_is}
use Rattle.krb_keytab.proofs.indexed.Indexed.remove.Goals as goal

pub returns-in_err-remove_at : goal.returns-in_err-remove_at
returns-in_err-remove_at g c =
    let cut = found_is_cut c.deref.result.now.state (g.N.Name.parts c.args.name.now) c.args.kvno c.args.enctype (c.in_ok-place.place, c.in_ok-place.field-0-1) (sym c.in_ok-place.ensures) in
    let same = state_is c.deref.ensures in
    let not = c.in_err-remove_at.ensures.gives.0 in
    absurd cc
