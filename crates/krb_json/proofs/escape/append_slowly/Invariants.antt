use Rattle.krb_json.proofs.Cited.{◌≡◌, ◌++◌, false, drop, escaped}
use Rattle.krb_wire.specs.declared.controls.Style.TheVariants.{Json}
use Rattle.krb_json.proofs.escape.append_slowly.Given as goal

-- what is out and the rest make the text
abbrev pub invariant-bytes : goal.invariant-bytes
invariant-bytes g l = l.out.items ++ escaped Json l.holds (drop l.byte-index l.text) ≡ l.fn.out.items ++ escaped Json false l.text
