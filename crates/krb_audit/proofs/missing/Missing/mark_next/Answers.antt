use Rattle.krb_audit.proofs.ForAnswers.{◌≡◌, ◌∙◌, ap, Bool, List, ℕ, PlacedEntry, subst, name_text, is_among, AreMarked, seen_in, seen_next}
use Rattle.std.proofs.lemmas.Result.{IfOk-weaker}
use Rattle.krb_wire.specs.Spelling.{Parts}
use Rattle.krb_audit.proofs.missing.Missing.mark_next.Goals as goal

pub returns : goal.returns
returns g c = λ wanted before place known.
    let x : PlacedEntry = (place, c.args.entry.now) in
    let same : c.principal.result.now ≡ x.1.principal = c.principal.ensures in
    IfOk-weaker c.mark.result _ _ (λ is_wanted marked. (marked.0 ∙ ap (λ (p : Parts). is_among wanted (name_text p)) same, subst (λ (seen : List ℕ → Bool). AreMarked seen wanted c.mark.new.wanted) (seen_next before x c.principal.result.now same) marked.1)) (c.mark.ensures wanted (seen_in before) known)
