use Rattle.krb_driver.proofs.Cited.{◌≡◌, ◌++◌, take, flat_map, quoted_byte}
use Rattle.krb_driver.proofs.reporting.operand.append_quoted.Given as goal

-- the bytes so far are appended
abbrev pub invariant-bytes : goal.invariant-bytes
invariant-bytes l = l.operand.items ≡ l.initial.operand.items ++ flat_map quoted_byte (take l.byte-index l.name)
