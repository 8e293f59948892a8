use Rattle.std.proofs.Common.{◌≡◌, ℕ, ◌*◌, ◌≤◌, List, ◌++◌, take}
use Rattle.arrayvec.specs.ArrayVec.{array_vec_len}
use Rattle.krb_wire.specs.Controls.{escaped}
use Rattle.krb_wire.specs.declared.controls.Style.TheVariants.{Terminal}
use Rattle.krb_terminal.proofs.screen.escape.Given as goal

abbrev pub invariant-bytes : goal.invariant-bytes
invariant-bytes l = record {
  items : (rest : List ℕ) → l.text.items ++ escaped Terminal l.holding rest ≡ escaped Terminal l.holds (take l.byte-index l.bytes ++ rest);
  room : array_vec_len l.text ≤ 9 * l.byte-index;
}
