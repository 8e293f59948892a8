use Rattle.krb_text.proofs.Cited.{rules, flag_letters_of}
use Rattle.krb_text.proofs.flags.flag_letters.Goals as goal

pub returns : goal.returns
returns g c = c.all_or_nothing.ensures (flag_letters_of c.args.flags) c.args.out.now (search rules) c.append_letters-appended.ensures
