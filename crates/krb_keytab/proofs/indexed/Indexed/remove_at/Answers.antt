use Rattle.krb_keytab.proofs.Cited.{rules, ◌≡◌, Ok, cut_result}
use Rattle.krb_keytab.proofs.AfterChanges.{removed_none}
use Rattle.krb_keytab.proofs.indexed.Indexed.remove_at.Goals as goal

pub returns-clause-gone : goal.returns-clause-gone
returns-clause-gone g c =
    let gives : cut_result c.args.self.now.state c.args.place ≡ Ok c.free.new.self.state = search rules in
    removed_none c.args.self.now.state c.args.place c.free.new.self.state gives
