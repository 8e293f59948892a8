use Rattle.krb_names.proofs.Cited.{sym, inr, refl}
use Rattle.std.proofs.Common.{rules, IsOk, subst}
use Rattle.krb_names.proofs.StarredLemmas.{pattern_err, pattern_ok}
use Rattle.krb_names.proofs.patterns.parse_pattern.Goals as goal

pub returns-in_err-parse_name-clause-err : goal.returns-in_err-parse_name-clause-err
returns-in_err-parse_name-clause-err g c = search (rules, pattern_err c.args.text.now c.in_err-parse_name.field-0.0 c.in_err-parse_name.ensures.err)

pub returns-in-Err-clause-err : goal.returns-in-Err-clause-err
returns-in-Err-clause-err g c = inr (refl, pattern_ok c.args.text.now (subst IsOk (sym c.in_ok-parse_name.ensures.ok) refl))
