use Rattle.krb_audit.proofs.ForAnswers.{◌∙◌, ap, ℕ, ◌+◌, Bool, ◌&&◌, List, [], ◌∷◌, ◌++◌, mapped_after, RankParts}
use Rattle.std.specs.Prelude.{if◌then◌else◌}
use Rattle.krb_text.specs.Etype.{is_weak}
use Rattle.krb_findings.specs.declared.finding.Finding.{Finding}
use Rattle.krb_findings.specs.declared.finding.Finding.TheVariants.{Weak, Old, Nostrong}
use Rattle.krb_audit.specs.Findings.{is_found, nothing_asked}
use Rattle.krb_audit.proofs.TallyLemmas.{counted}
use Rattle.krb_audit.proofs.tally.Tally.add.Goals as goal

pub returns : goal.returns
returns c = λ k before rest x ranks etype so_far.
    let more : ℕ → Bool → ℕ = λ n b. n + (if b then 1 else 0) in
    let found : Finding → List Bool = λ f. mapped_after (λ ys y. is_found nothing_asked k ys y f) (before ++ x ∷ []) rest in
    record {
      weak_entries = counted _ _ _ _ (found Weak) (c.in_ok-self.ensures ∙ ap (more c.args.self.now.weak_entries) (c.is_weak.ensures ∙ ap is_weak etype)) so_far.weak_entries;
      old_entries = counted _ _ _ _ (found Old) (c.in_ok-self-2.ensures ∙ ap (more c.args.self.now.old_entries) (ap (λ (r : RankParts). r.is_old) ranks)) so_far.old_entries;
      weak_names = counted _ _ _ _ (found Nostrong) (c.in_ok-self-3.ensures ∙ ap (more c.args.self.now.weak_names) (ap (λ (r : RankParts). r.is_first && r.lacks_strong) ranks)) so_far.weak_names;
    }
