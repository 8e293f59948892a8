use Rattle.krb_text.proofs.Cited.{drop, Left, letters_among}
use Rattle.krb_text.proofs.flags.append_letters.Given as goal

abbrev pub invariant-flags : goal.invariant-flags
invariant-flags g l = Left (letters_among l.flags l.table) (letters_among l.flags (drop l.bit-index l.table)) l.fn.out l.out
