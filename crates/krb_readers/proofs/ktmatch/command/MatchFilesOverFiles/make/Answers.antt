use Rattle.krb_readers.proofs.Cited.{inr, ap, Ok, Err, matched_in, page_due, TicketMatch}
use Rattle.krb_readers.proofs.Checked.{tried}
use Rattle.krb_readers.proofs.ktmatch.command.MatchFilesOverFiles.make.Goals as goal

pub returns : goal.returns
returns g c =
    let s = c.args.self.now in
    tried g.F.Files c.args.files.now c.args.file matched_in (Ok c.in-Ok.cache.state) s.options.now.json (page_due s.options.now s.keytab.now s.are_several s.matcher.now c.args.state c.args.file.name.now) _
    c.try_open.new.files (rw c.in-Ok.is at c.try_open.ensures) c.shown.ensures

pub returns-in-Err : goal.returns-in-Err
returns-in-Err g c =
    let s = c.args.self.now in
    tried g.F.Files c.args.files.now c.args.file matched_in (Err c.in-Err.why) s.options.now.json (page_due s.options.now s.keytab.now s.are_several s.matcher.now c.args.state c.args.file.name.now) _
    c.try_open.new.files (rw c.in-Err.is at c.try_open.ensures) (inr (rw (ap (λ (x : TicketMatch). x.json) c.options.view_is) at c.refused.ensures))
