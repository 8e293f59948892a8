use Rattle.krb_driver.proofs.Cited.{◌≡◌, ◌++◌, take, flat_map, name_byte}
use Rattle.krb_driver.proofs.file_name.append_name.Given as goal

-- the bytes so far are appended
abbrev pub invariant-bytes : goal.invariant-bytes
invariant-bytes g l = l.text.items ≡ l.initial.text.items ++ flat_map name_byte (take l.byte-index l.name)
