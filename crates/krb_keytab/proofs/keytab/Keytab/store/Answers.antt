use Rattle.krb_keytab.proofs.Cited.{refl, subst, ◌∙◌, IsBytes}
use Rattle.krb_cells.specs.Carry.{between}
use Rattle.krb_keytab.proofs.Stores.{state_is}
use Rattle.krb_keytab.proofs.ImageStores.{all_held, kind_held}
use Rattle.krb_keytab.proofs.keytab.Keytab.store.Goals as goal

pub part-cells-requires : goal.part-cells-requires
part-cells-requires g c =
    let all = all_held _ _ _ c.deref-image.result.now (between 2 _ c.deref-image.result.now) _ _ c.deref-image.ensures.value (subst IsBytes c.deref-image.ensures.value c.bytes_fit.ensures) c.self.invariant.0 c.self.invariant.1 (state_is c.self.view_is) refl in
    record { ahead = all.ahead; within = all.within }

pub of-requires : goal.of-requires
of-requires g c =
    let all = all_held _ _ _ c.deref-image.result.now c.part-cells.result.now _ _ c.deref-image.ensures.value (subst IsBytes c.deref-image.ensures.value c.bytes_fit.ensures) c.self.invariant.0 c.self.invariant.1 (state_is c.self.view_is) c.part-cells.ensures in
    record { cells = all.are; small = all.small }

pub returns : goal.returns
returns g c =
    let all = all_held _ _ _ c.deref-image.result.now c.part-cells.result.now _ _ c.deref-image.ensures.value (subst IsBytes c.deref-image.ensures.value c.bytes_fit.ensures) c.self.invariant.0 c.self.invariant.1 (state_is c.self.view_is) c.part-cells.ensures in
    c.of.ensures ∙ all.store c.kind.result (c.kind.ensures ∙ kind_held _ _ _ _ _ c.self.invariant.1 (state_is c.self.view_is))
