use Rattle.krb_copy.proofs.ForAnswers.{◌≡◌, take, length, sym, ap, ◌∙◌, arith, List, ℕ, flat_map, KeytabState, put_result, removed_line, take_at, refusal_is}
use Rattle.krb_copy.proofs.making.Making.copy.Goals as goal

pub returns-in-Ok-clause-added : goal.returns-in-Ok-clause-added
returns-in-Ok-clause-added g c =
    ap (λ (k : KeytabState). put_result k c.args.entry.now) (sym c.in_ok-remove.ensures.keytab) ∙ ap (put_result c.remove.new.self.keytab.state) (sym c.in_ok-new.ensures) ∙ c.in-Ok.ensures.gives

pub returns-clause-refused : goal.returns-clause-refused
returns-clause-refused g c =
    let same = ap (λ (k : KeytabState). put_result k c.args.entry.now) (sym c.in_ok-remove.ensures.keytab) ∙ ap (put_result c.remove.new.self.keytab.state) (sym c.in_ok-new.ensures) in
    let old : List ℕ = c.args.self.now.text.items in
    let lines : List ℕ = flat_map (λ p. removed_line (p, c.args.entry.now)) c.args.places.now in
    let count : length old ≡ c.len-before.result = omega (arith, c.len-before.ensures, c.args.self.now.text.ok.0) in
    refusal_is _ _ old c.truncate.new.self.items c.remove.new.self.keytab.state c.add.new.self.state c.in-Err.refusal same
    (c.truncate.ensures.items ∙ ap (take c.len-before.result) c.in_ok-remove.ensures.text ∙ take_at old lines c.len-before.result count) c.in-Err.ensures.gives
