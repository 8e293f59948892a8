use Rattle.krb_ccache.proofs.Cited.{arith, ◌≡◌, false, is_marked}
use Rattle.krb_ccache.proofs.StoreChanges.{last_puts}
use Rattle.krb_ccache.proofs.LastCredential.{append_puts, put_there}
use Rattle.krb_ccache.proofs.ccache.Ccache.store.Goals as goal

pub returns-clause-puts : goal.returns-clause-puts
returns-clause-puts g c = search (arith, append_puts, last_puts)

pub returns-clause-memory : goal.returns-clause-memory
returns-clause-memory g c = λ none. search arith

pub returns-clause-there : goal.returns-clause-there
returns-clause-there g c =
    let live : is_marked c.args.cred.now ≡ false = let a = c.is_marked.ensures in let d = c.if-is_marked.false in cc in
    put_there c.args.self.now.state c.args.self.now.state c.append.new.self.state c.args.cred.now c.append.result live c.append.ensures.gives
