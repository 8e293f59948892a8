use Rattle.krb_copy.proofs.ForAnswers.{ap, ◌∙◌, cond, true, Bool, has_among, nat_list_eq_equiv, or_added}
use Rattle.std.proofs.lemmas.Map.Text.{is_eq-slice_cmp}
use Rattle.krb_copy.proofs.class.Many.push.Goals as goal

pub returns-clause-keys : goal.returns-clause-keys
returns-clause-keys g c = λ k.
    let old = has_among c.args.self.now.keys k in
    c.in_ok-insert.ensures.updates.0 (record { ref_ptr = (0, 0); now = k })
    ∙ ap (λ (b : Bool). cond b true old) (is_eq-slice_cmp c.args.key.now k ∙ nat_list_eq_equiv.symm c.args.key.now k) ∙ or_added old _
