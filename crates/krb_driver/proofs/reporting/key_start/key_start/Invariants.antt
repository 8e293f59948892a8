use Rattle.krb_driver.proofs.Cited.{◌≡◌, ◌+◌, drop, key_from, key_start}
use Rattle.krb_driver.proofs.reporting.key_start.key_start.Given as goal

-- no key begins before this byte
abbrev pub invariant-bytes : goal.invariant-bytes
invariant-bytes l = key_start l.word ≡ l.at + key_from l.can_begin (drop l.at l.word)
