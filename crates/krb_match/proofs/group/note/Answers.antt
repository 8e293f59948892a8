use Rattle.krb_match.proofs.ForAnswers.{◌∙◌, noted}
use Rattle.krb_match.proofs.group.note.Goals as goal

pub returns : goal.returns
returns g c =
    noted c.args.number c.kvno.result c.from.result (c.args.place, c.args.entry.now) c.in_ok-new.new c.in_ok-new-2.new c.args.groups.now c.add.new.groups c.add-2.new.groups c.add-3.new.groups c.add-4.new.groups c.kvno.ensures (c.from.ensures ∙ c.enctype.ensures)
    c.in_ok-new.ensures.is_first c.in_ok-new-2.ensures.is_first c.in_ok-new.ensures.added c.in_ok-add.ensures.added c.in_ok-new-2.ensures.added c.in_ok-add-2.ensures.added
