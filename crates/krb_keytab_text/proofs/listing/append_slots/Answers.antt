use Rattle.krb_keytab_text.proofs.Cited.{◌≡◌, ◌+◌, arith, append_assoc}
use Rattle.krb_keytab_text.proofs.Items.{drop_item}
use Rattle.krb_keytab_text.proofs.listing.append_slots.Goals as goal

pub slots-preserved : goal.slots-preserved
slots-preserved g c =
    let i = c.slots.entry-index in
    let next = drop_item c.args.entries.now i c.entry-item.result c.slots-test.true c.entry-item.is in
    let same : c.slots.slot + 1 ≡ i + 1 = (let slot = c.slots.invariant.slot in omega (arith, slot)) in
    record {
      slot = same;
      lines = grind (arith, c.in_ok-append_slot.ensures, same, next, append_assoc, c.slots.invariant.lines);
    }
