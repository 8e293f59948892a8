use Rattle.krb_match.proofs.ForAnswers.{◌∙◌, ap, PlacedEntry, hash_of, on_ok_weaker, placed_next}
use Rattle.krb_match.proofs.classes.note.Goals as goal

pub returns : goal.returns
returns g c = λ before key h.
    let x : PlacedEntry = (c.args.place, c.args.entry.now) in
    on_ok_weaker c.add.result (λ n. placed_next before x c.hash_of.result c.kvno.result c.from.result c.args.places.now c.add.new.places (c.hash_of.ensures ∙ ap hash_of key) c.kvno.ensures (c.from.ensures ∙ c.enctype.ensures) h (λ k. rw key at (n k))) c.add.ensures
