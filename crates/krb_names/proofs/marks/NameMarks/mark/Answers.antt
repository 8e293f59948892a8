use Rattle.krb_names.proofs.Cited.{◌∙◌, List, Bool, ap, with_mark}
use Rattle.krb_names.proofs.MarkedNames.{marked_at}
use Rattle.krb_names.proofs.marks.NameMarks.mark.Goals as goal

pub returns : goal.returns
returns g c = λ names marked are. record {
  names = are.names;
  marks = c.set_mark.ensures ∙ ap (λ (bs : List Bool). with_mark bs c.place.result) are.marks ∙ marked_at marked c.args.self.now.names c.args.name.now c.place.result c.place.ensures.alone;
}
