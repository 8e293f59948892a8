use Rattle.krb_names.proofs.MarkedNames.{none_marked}
use Rattle.krb_names.proofs.marks.NameMarks.of.Goals as goal

pub returns : goal.returns
returns g c = record {
  names = c.in_ok-names.ensures;
  marks = none_marked c.in_ok-names.names c.new-marks.result.items c.resize.new.self.items c.len.result _ c.in_ok-resize.ensures.items c.new-marks.ensures.items c.new-marks.ensures.len c.len.ensures;
}
