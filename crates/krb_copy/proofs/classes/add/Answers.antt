use Rattle.krb_copy.proofs.ForAnswers.{met, one_found, sym, []}
use Rattle.krb_copy.proofs.classes.add.Goals as goal

pub returns : goal.returns
returns g c = λ held x classes of_x secret.
    let m = met [] held x c.args.key c.args.classes.now c.or_insert.result.now classes of_x c.in_ok-classes.ensures.value c.or_insert.ensures.value in
    let same = c.classes-3-1.given.1 (sym c.in_ok-classes.ensures.same_map) in
    let class = c.in_ok-push.ensures in
    one_found c.push.new.self c.args.place c.args.secret m same (c.in_ok-classes.ensures.update.0 c.push.new.self) secret class.places class.keys class.stays
