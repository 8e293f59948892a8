use Rattle.krb_keytab.proofs.Cited.{arith, OnTrue_from, OnFalse_from, leb-true, leb-false, nat_tests}
use Rattle.krb_keytab.proofs.Stores.{state_is}
use Rattle.krb_keytab.proofs.Additions.{appends, append_full, append_fits}
use Rattle.krb_keytab.proofs.keytab.Keytab.has_room.Goals as goal

pub returns-clause-fits : goal.returns-clause-fits
returns-clause-fits g c =
    let a = appends _ _ _ _ _ _ c.len_with.result c.len.result c.self.invariant.1 (state_is c.self.view_is) c.requires c.len_with.ensures c.len.ensures.len in
    OnTrue_from _ _ (λ yes. append_fits _ _ _ _ _ _ c.len_with.result a (leb-true _ _ yes))

pub returns-clause-full : goal.returns-clause-full
returns-clause-full g c =
    let a = appends _ _ _ _ _ _ c.len_with.result c.len.result c.self.invariant.1 (state_is c.self.view_is) c.requires c.len_with.ensures c.len.ensures.len in
    OnFalse_from _ _ (λ no. append_full _ _ _ _ _ _ c.len_with.result a (leb-false _ _ no))

pub returns-clause-small : goal.returns-clause-small
returns-clause-small g c = grind (arith, nat_tests)
