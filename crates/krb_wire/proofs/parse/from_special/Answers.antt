use Rattle.krb_wire.proofs.Cited.{sym, ap, ◌∙◌, List, Atom, atoms, after_at, faults_from, first_fault}
use Rattle.krb_wire.proofs.PlainRuns.{faults_from-plain, after_at-plain}
use Rattle.krb_wire.proofs.parse.from_special.Goals as goal

pub returns-clause-faults : goal.returns-clause-faults
returns-clause-faults c in_realm =
    let rest = atoms c.split_plain.result.1.now in
    ap first_fault (sym (faults_from-plain in_realm c.split_plain.result.0.now rest) ∙ ap (λ (text : List Atom). faults_from in_realm text) (sym c.split_plain.ensures.cut))

pub returns-clause-realm : goal.returns-clause-realm
returns-clause-realm c = sym (after_at-plain c.split_plain.result.0.now (atoms c.split_plain.result.1.now)) ∙ ap after_at (sym c.split_plain.ensures.cut)
