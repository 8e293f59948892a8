-- Worked samples of the definitions.
use Rattle.std.specs.Prelude.{◌≡◌, [], ◌∷◌, codes, Some, true}
use Rattle.krb_audit.proofs.Cited.{refl, finding_lines, none, with_if}
use Rattle.krb_audit.proofs.OnLiterals.{krb_audit_on_literals}
use Rattle.krb_findings.specs.declared.finding.Finding.TheVariants.{Weak, Size, Hidden, Clash, Old}

-- what is found about an entry has its order: weak, size, hidden, same or clash, old, aged
pub order : finding_lines [] none (
  (9, record { principal = record { name_type = 1; realm = codes "R"; components = codes "a" ∷ [] }; timestamp = 0; version = 1; enctype = 23; key = [] }),
  record { findings = with_if true Old (with_if true Clash (with_if true Hidden (with_if true Size (with_if true Weak none)))); first = Some 2; newest = 1 },
)
    ≡ codes "weak 9 kvno 1 etype 23 a@R\nsize 9 kvno 1 etype 23 a@R\nhidden 9 kvno 1 etype 23 a@R\nclash 9 2 kvno 1 etype 23 a@R\nold 9 kvno 1 etype 23 a@R\n"
unfolding krb_audit_on_literals
order = refl
