use Rattle.krb_copy.proofs.ForAnswers.{◌∙◌, sym, ap, refl, cond, true, Bool, ◌&&◌, ◌==◌, bytes_eq, contains_by, not-false, nat_list_eq_equiv, bytes_eq-Decides, to_key, names_tie, first_added, key_added, key_known}
use Rattle.krb_copy.proofs.diff.Keys.push.Goals as goal

pub returns-in-None-clause-keys : goal.returns-in-None-clause-keys
returns-in-None-clause-keys g c = λ rows lt are. first_added rows c.args.row.now c.args.self.now _ c.key-key.result are lt (sym c.in-None.ensures) c.key-key.ensures c.set_at.ensures refl

pub returns-in_ok-insert-in-Some-clause-keys : goal.returns-in_ok-insert-in-Some-clause-keys
returns-in_ok-insert-in-Some-clause-keys g c = λ rows lt are.
    let r = c.args.row.now in
    let key = c.key-key.result in
    key_added rows r c.args.self.now _ (c.in-Some._place, c.in-Some.first) are c.in-Some.ensures refl
    (λ n wanted. c.in_ok-insert-in-Some.ensures.updates.0 (n, record { ref_ptr = (0, 0); now = wanted })
    ∙ ap (λ (b : Bool). cond b true (contains_by (to_key n wanted) c.args.self.now.more))
    (sym (names_tie (r.number, key) (n, record { ref_ptr = (0, 0); now = wanted }))
    ∙ ap (λ (b : Bool). r.number == n && b) (nat_list_eq_equiv.symm key.now wanted ∙ ap (bytes_eq wanted) c.key-key.ensures)))

pub returns-else-ne-clause-keys : goal.returns-else-ne-clause-keys
returns-else-ne-clause-keys g c = λ rows lt are.
    key_known rows c.args.row.now c.args.self.now _ (c.in-Some._place, c.in-Some.first) are c.in-Some.ensures refl refl
    ((bytes_eq-Decides c.in-Some.first.now c.key-key.result.now).0 (not-false (bytes_eq c.in-Some.first.now c.key-key.result.now) (sym c.ne.ensures ∙ c.if-ne.false)) ∙ c.key-key.ensures)
