use Rattle.krb_copy.proofs.ForAnswers.{◌∙◌, ◌∷◌, [], append_assoc, arith, name_text, name_texts, PlacedEntry, length_push, key_of_fields, row_is, are_twins, entry_of, IsClassKey, numbers_next, twins_equiv, classes_agree}
use Rattle.krb_copy.proofs.numbering.Numbering.row.Goals as goal

pub returns : goal.returns
returns g c = λ all before rest n.
    let x : PlacedEntry = (c.args.place, c.args.entry.now) in
    let name = c.next.ensures (name_text x.1.principal) (name_texts rest) n.texts in
    let of_x = key_of_fields x.1 c.fields.result c.next.result.now c.class_key-key.result c.fields.ensures.is name.0 c.class_key-key.ensures in
    let gets = c.in_ok-number.ensures in (
      row_is all before rest x c.class_key-key.result c.in_ok-number.number c.args.self.now.count c.args.self.now.numbers c.number_of.new.numbers n.parts n.count n.numbers of_x gets,
      record {
        parts = append_assoc before (x ∷ []) rest ∙ n.parts;
        texts = name.1;
        numbers = numbers_next entry_of are_twins twins_equiv IsClassKey classes_agree before x c.class_key-key.result c.args.self.now.count c.in_ok-number.number c.args.self.now.numbers c.number_of.new.numbers n.numbers of_x n.count gets;
        count = let sum = c.in-Some.ensures in let len = length_push before x in omega (arith, sum, n.count, len);
      },
    )
