use Rattle.krb_names.proofs.Cited.{◌≡◌, take, fold, with_number}
use Rattle.krb_names.proofs.hash.with_bytes.Given as goal

abbrev pub invariant-loop-byte : goal.invariant-loop-byte
invariant-loop-byte l = l.hash ≡ fold with_number l.fn.hash (take l.byte-index l.bytes)
