use Rattle.krb_readers.proofs.Cited.{refl}
use Rattle.krb_readers.specs.Ktmatch.{object_page}
use Rattle.krb_readers.proofs.Listed.{ShowsPage-done}
use Rattle.krb_readers.proofs.ktmatch.page.MatchObjectShow.show.Goals as goal

pub returns : goal.returns
returns g c =
    let o = c.args.self.now in
    let p = rw (c.deref.ensures.value, c.status-status.ensures) at c.in_ok-match_json.ensures.prints in
    ShowsPage-done (object_page o.keytab.now o.judged c.args.file.now o.tickets.items) c.args.out.now c.match_json.new.out _ c.requires p.failed p.ok refl
