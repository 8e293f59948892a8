use Rattle.krb_keytab.proofs.Cited.{◌<◌, ◌∙◌, ap, arith, get_or, length, List, refl, get_or_default, Slot}
use Rattle.krb_keytab.proofs.Stores.{state_is}
use Rattle.krb_keytab.proofs.IndexLemmas.{table_held}
use Rattle.krb_keytab.proofs.PlaceLemmas.{slots_len}
use Rattle.krb_keytab.proofs.indexed.Indexed.slot.Goals as goal

pub index-requires : goal.index-requires
index-requires g c = search (arith, table_held, state_is, slots_len)

pub returns : goal.returns
returns g c =
    let table = table_held c.self.invariant.0 (state_is c.self.view_is) refl in
    let inside : c.args.number < length c.self.inside.slots.items = omega (arith, ap length table, slots_len 2 c.args.self.now.state.contents.cells, c.requires) in
    c.index.ensures ∙ get_or_default c.self.inside.slots.items c.args.number c.index.result.now (record { place = 0; field = 0 }) inside
    ∙ ap (λ (s : List Slot). get_or s c.args.number (record { place = 0; field = 0 })) table
