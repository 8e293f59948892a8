use Rattle.krb_text.proofs.Cited.{◌/◌, day_number}
use Rattle.krb_text.proofs.time.LastTime.turn_to.Goals as goal

pub invariant_of-self : goal.invariant_of-self
invariant_of-self c = record {
  spelled = c.at_second.ensures (day_number (c.args.seconds / 86400)) c.text_of_day-day.ensures.0 c.text_of_day-day.ensures.1;
}
