use Rattle.krb_ccache.proofs.Cited.{◌≡◌, ◌<◌, ◌^◌, take}
use Rattle.krb_ccache.specs.Der.{base_256}
use Rattle.krb_ccache.proofs.der.base_256.Given as goal

-- the digits so far make the number, which has no more of them
abbrev pub invariant-loop-byte : goal.invariant-loop-byte
invariant-loop-byte l = (l.number ≡ base_256 l.is_complement (take l.byte-index l.bytes)) × (l.number < 256 ^ l.byte-index)
