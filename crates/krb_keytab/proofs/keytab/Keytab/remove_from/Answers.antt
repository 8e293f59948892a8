use Rattle.krb_keytab.proofs.Cited.{rules, ◌≡◌, Ok, cut_result, live_is_place, store_of}
use Rattle.krb_keytab.proofs.StoreChanges.{place_stays}
use Rattle.krb_keytab.proofs.keytab.Keytab.remove_from.Goals as goal

pub returns-clause-from : goal.returns-clause-from
returns-clause-from g c =
    let gives : cut_result c.args.self.now.state c.args.place ≡ Ok c.free.new.self.state = search rules in
    place_stays c.args.self.now.state c.free.new.self.state c.args.place c.args.place gives (live_is_place (store_of c.args.self.now.state) c.args.place (search rules))
