use Rattle.krb_keytab.proofs.Cited.{◌≡◌, ◌<◌, ◌≤◌, ◌+◌, ◌-◌, length, drop, contents, end_place}
use Rattle.krb_keytab.proofs.image.end_of_cells_in.Given as goal

abbrev pub invariant-cells : goal.invariant-cells
invariant-cells l = record {
  within : l.at ≤ length l.image;
  place : end_place l.at (contents l.format (drop l.at l.image)).cells ≡ end_place 2 (contents l.format (drop 2 l.image)).cells;
  count : l.count + length (contents l.format (drop l.at l.image)).cells ≡ length (contents l.format (drop 2 l.image)).cells;
  few : l.count < l.at;
  end : (contents l.format (drop l.at l.image)).end ≡ (contents l.format (drop 2 l.image)).end;
}

abbrev pub decreases-cells : goal.decreases-cells
decreases-cells l = length l.image - l.at
