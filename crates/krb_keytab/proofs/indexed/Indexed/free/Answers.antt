use Rattle.krb_keytab.proofs.Cited.{◌≡◌, ◌∙◌, ap, sym, subst, arith, set, with_hole, live_bytes, KeytabState, store_of, Slot, negated, free_size, slot_at}
use Rattle.std.specs.Prelude.{IsSome, vec_len, vec_capacity}
use Rattle.krb_keytab.proofs.Stores.{state_is}
use Rattle.krb_keytab.proofs.LiveLemmas.{cell_field, live_at}
use Rattle.krb_keytab.proofs.ChangeLemmas.{IsKept, freed_kept}
use Rattle.krb_keytab.proofs.indexed.Indexed.free.Goals as goal

pub negated-hole-requires : goal.negated-hole-requires
negated-hole-requires g c =
    let long = cell_field c.args.self.now.state c.args.number c.args.place _ c.count-sound.ensures.sound (live_at c.args.self.now.state c.args.number c.args.place c.requires).cell in
    omega (arith, long, ap (λ (s : Slot). s.field) c.slot.ensures)

pub free-requires : goal.free-requires
free-requires g c = subst (λ (y : KeytabState). IsSome (live_bytes (store_of y) c.args.place)) (sym (state_is c.self.view_is)) c.requires.live

pub invariant_of-self : goal.invariant_of-self
invariant_of-self g c =
    let i = c.self.inside in
    let k = c.args.self.now.state in
    let n = c.args.number in
    let kept = subst (λ (y : KeytabState). IsKept y i.slots.items (vec_len i.slots) (vec_capacity i.slots) i.tree) (state_is c.self.view_is) c.self.invariant in
    let slot : c.negated-hole.result ≡ negated (slot_at k n) = c.negated-hole.ensures ∙ ap negated c.slot.ensures in
    let new = c.put_slot.new in
    let sizes : new.tree.sizes ≡ set i.tree.sizes n (free_size (negated (slot_at k n))) = c.put_slot.ensures.sizes ∙ ap (λ (x : Slot). set i.tree.sizes n (free_size x)) slot in
    let slots : new.slots.items ≡ set i.slots.items n (negated (slot_at k n)) = c.put_slot.ensures.slots ∙ ap (set i.slots.items n) slot in
    let state : with_hole k c.args.place ≡ c.free.new.self.state = sym (c.free.ensures.freed ∙ ap (λ (y : KeytabState). with_hole y c.args.place) (state_is c.self.view_is)) in
    let after = freed_kept k i.slots.items i.tree new.tree (vec_len i.slots) (vec_capacity i.slots) n c.args.place c.requires kept sizes c.put_slot.ensures.height c.put_slot.ensures.node_room in
    let same = subst (λ (y : KeytabState). IsKept y (set i.slots.items n (negated (slot_at k n))) (vec_len i.slots) (vec_capacity i.slots) new.tree) state after in
    rw (slots, c.put_slot.ensures.len, c.put_slot.ensures.slot_room) same
