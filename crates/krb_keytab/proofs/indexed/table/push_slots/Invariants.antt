-- The table so far, and the slots of the cells still to come, are the whole table.
use Rattle.krb_keytab.proofs.Cited.{◌≡◌, ◌+◌, ◌++◌, ◌^◌, ◌≤◌, length, vec_len, vec_capacity, slots_from}
use Rattle.krb_keytab.proofs.indexed.table.push_slots.Given as goal

abbrev pub invariant-loop-place : goal.invariant-loop-place
invariant-loop-place g l = record {
  slots : l.slots.items ++ slots_from l.place-iterator.place l.place-iterator.contents.cells ≡ slots_from 2 l.fn.keytab.state.contents.cells;
  count : vec_len l.slots + length l.place-iterator.contents.cells ≡ length l.fn.keytab.state.contents.cells;
  room : vec_capacity l.slots ≡ vec_capacity l.fn.slots;
  small : l.place-iterator.place ≤ 2 ^ 30;
}
