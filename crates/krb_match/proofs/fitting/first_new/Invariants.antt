use Rattle.krb_match.proofs.Cited.{◌≡◌, drop, find, is_new}
use Rattle.krb_match.proofs.fitting.first_new.Given as goal

-- what is found among those to come is what is found
abbrev pub invariant-firsts : goal.invariant-firsts
invariant-firsts l = find (λ f. is_new l.found f.1) (drop l.first-index l.firsts) ≡ find (λ f. is_new l.found f.1) l.firsts
