use Rattle.std.proofs.Common.{ℕ, ◌%◌, sym, ap, ◌∙◌}
use Rattle.krb_text.specs.Calendar.{day_number, day_text}
use Rattle.krb_text.proofs.time.LastTime.text_of_day.Goals as goal

pub returns-then-days-self : goal.returns-then-days-self
returns-then-days-self c =
    let last = c.args.self.now in
    (last.seconds % 86400, last.spelled ∙ ap (λ (n : ℕ). day_text (day_number n) (last.seconds % 86400)) (sym c.if-days-self.true))
