-- The keytab takes the record; its table and its tree are kept.
use Rattle.krb_keytab.proofs.Cited.{◌≡◌, ◌∙◌, length, ap, sym, subst, arith, set, with_record_in, KeytabState, Slot, negated, free_size, slot_at}
use Rattle.std.specs.Prelude.{vec_len, vec_capacity}
use Rattle.krb_keytab.proofs.Stores.{state_is}
use Rattle.krb_keytab.proofs.ChangeLemmas.{IsKept, hole_at, filled_kept}
use Rattle.krb_keytab.proofs.LiveLemmas.{cell_field}
use Rattle.krb_keytab.proofs.indexed.Indexed.fill.Goals as goal

pub negated-requires : goal.negated-requires
negated-requires g c =
    let k = c.args.self.now.state in
    let long = cell_field k c.args.number (slot_at k c.args.number).place _ c.count-sound.ensures.sound (hole_at k (length c.args.form.now.bytes) c.args.number c.requires.hole).cell in
    omega (arith, long, ap (λ (s : Slot). s.field) c.slot-slot.ensures)

pub invariant_of-self : goal.invariant_of-self
invariant_of-self g c =
    let i = c.self.inside in
    let k = c.args.self.now.state in
    let n = c.args.number in
    let bytes = c.args.form.now.bytes in
    let kept = subst (λ (y : KeytabState). IsKept y i.slots.items (vec_len i.slots) (vec_capacity i.slots) i.tree) (state_is c.self.view_is) c.self.invariant in
    let state : with_record_in k bytes (slot_at k n).place ≡ c.fill.new.self.state =
    sym (c.fill.ensures.filled ∙ ap (λ (y : KeytabState). with_record_in y bytes c.slot-slot.result.place) (state_is c.self.view_is) ∙ ap (λ (s : Slot). with_record_in k bytes s.place) c.slot-slot.ensures) in
    let slot : c.negated.result ≡ negated (slot_at k n) = c.negated.ensures ∙ ap negated c.slot-slot.ensures in
    let put = c.put_slot.new in
    let sizes : put.tree.sizes ≡ set i.tree.sizes n (free_size (negated (slot_at k n))) = c.put_slot.ensures.sizes ∙ ap (λ (x : Slot). set i.tree.sizes n (free_size x)) slot in
    let slots : put.slots.items ≡ set i.slots.items n (negated (slot_at k n)) = c.put_slot.ensures.slots ∙ ap (set i.slots.items n) slot in
    let done = filled_kept k i.slots.items i.tree put.tree (vec_len i.slots) (vec_capacity i.slots) n bytes c.count-sound.ensures.sound c.requires.hole kept sizes c.put_slot.ensures.height c.put_slot.ensures.node_room in
    let same = subst (λ (y : KeytabState). IsKept y (set i.slots.items n (negated (slot_at k n))) (vec_len i.slots) (vec_capacity i.slots) put.tree) state done in
    rw (slots, c.put_slot.ensures.len, c.put_slot.ensures.slot_room) same
