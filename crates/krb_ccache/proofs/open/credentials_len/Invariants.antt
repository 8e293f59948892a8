use Rattle.krb_ccache.proofs.Cited.{◌≡◌, ◌+◌, ◌≤◌, length, AreBytes, credentials_len}
use Rattle.krb_ccache.proofs.open.credentials_len.Given as goal

-- the bytes passed and the credentials of the rest are all the credentials
abbrev pub invariant-loop-after : goal.invariant-loop-after
invariant-loop-after l = record {
  all : credentials_len l.version l.bytes + length l.rest ≡ length l.bytes + credentials_len l.version l.rest;
  within : length l.rest ≤ length l.bytes;
  fits : AreBytes l.rest;
}

abbrev pub decreases-loop-after : goal.decreases-loop-after
decreases-loop-after l = length l.rest
