use Rattle.krb_match.proofs.ForAnswers.{◌∙◌, PlacedEntry, on_ok_weaker, noted_next}
use Rattle.krb_match.proofs.keys.Keys.consider.Goals as goal

pub returns-in-Some-clause-noted : goal.returns-in-Some-clause-noted
returns-in-Some-clause-noted g c = λ before there h.
    let x : PlacedEntry = (c.args.place, c.args.entry.now) in
    let number = c.in-Some.ensures x.1.principal (c.deref.ensures.value ∙ rw c.principal.ensures at c.in_ok-write_key.ensures) in
    on_ok_weaker c.note.result (noted_next c.args.self.now.names before x c.in-Some.number c.args.self.now.groups c.note.new.groups h number) c.note.ensures

pub returns-in-None-clause-noted : goal.returns-in-None-clause-noted
returns-in-None-clause-noted g c = λ before there h.
    let number = c.in-None.ensures c.args.entry.now.principal (c.deref.ensures.value ∙ rw c.principal.ensures at c.in_ok-write_key.ensures) in
    let found = number.found in absurd cc
