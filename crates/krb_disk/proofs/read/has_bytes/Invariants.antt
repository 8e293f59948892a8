use Rattle.std.proofs.Common.{◌≡◌, ◌++◌, IfSome}
use Rattle.krb_disk.proofs.read.has_bytes.Given as goal

-- if the file now has exactly the rest left to read, it had all the bytes at the start
abbrev pub invariant-loop : goal.invariant-loop
invariant-loop g l =
    IfSome (g.F.Read.remaining l.file) (λ left. left ≡ l.left.front.now ++ l.left.end.now)
    → IfSome (g.F.Read.remaining l.initial.file) (λ left. left ≡ l.fn.bytes.front.now ++ l.fn.bytes.end.now)
