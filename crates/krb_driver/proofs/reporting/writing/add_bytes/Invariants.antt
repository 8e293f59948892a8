use Rattle.krb_driver.proofs.Cited.{take, flat_map, byte_text, Adds}
use Rattle.krb_driver.proofs.reporting.writing.add_bytes.Given as goal

abbrev pub invariant-bytes : goal.invariant-bytes
invariant-bytes g l = Adds l.initial.err l.initial.gathered.items l.err l.gathered.items (flat_map (byte_text l.form) (take l.byte-index l.bytes))
