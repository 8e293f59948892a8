use Rattle.krb_ccache.proofs.Cited.{arith, rules, ◌≡◌, credential_at_place}
use Rattle.krb_ccache.proofs.Splits.{live_none, live_some}
use Rattle.krb_ccache.proofs.ccache.Ccache.cred_at.Goals as goal

pub returns-clause-none : goal.returns-clause-none
returns-clause-none g c = search (arith, live_none)

pub returns-clause-found : goal.returns-clause-found
returns-clause-found g c =
    let same : c.find.result ≡ credential_at_place c.args.self.now.state c.args.place = search rules in
    live_some c.args.self.now.state c.args.place c.find.result same
