use Rattle.krb_keytab_text.proofs.Cited.{◌≡◌, ◌+◌, ◌++◌, drop, slot_lines}
use Rattle.krb_keytab_text.proofs.listing.append_slots.Given as goal

-- the lines so far and those of the other slots are those of all
abbrev pub invariant-slots : goal.invariant-slots
invariant-slots g l = record {
  slot : l.slot ≡ l.entry-index;
  lines : l.out.items ++ slot_lines l.columns (l.entry-index + 1) (drop l.entry-index l.entries) ≡ l.initial.out.items ++ slot_lines l.columns 1 l.entries;
}
