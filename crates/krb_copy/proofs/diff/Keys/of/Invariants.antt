use Rattle.krb_copy.proofs.Cited.{◌≡◌, ◌<◌, length, take, All, AreKeys}
use Rattle.krb_copy.proofs.diff.Keys.of.Given as goal

-- the keys are those of the rows so far
abbrev pub invariant-rows : goal.invariant-rows
invariant-rows g l = record {
  keys : All (λ r. r.number < l.len) l.rows → AreKeys (take l.row-index l.rows) l.keys;
  len : length l.keys.firsts.items ≡ l.len;
}
