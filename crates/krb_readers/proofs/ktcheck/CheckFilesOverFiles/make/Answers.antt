use Rattle.krb_readers.proofs.Cited.{inr, ap, KeytabCheck, Ok, Err, found, page_of, keytab_in}
use Rattle.krb_readers.proofs.Checked.{tried}
use Rattle.krb_readers.proofs.ktcheck.CheckFilesOverFiles.make.Goals as goal

pub returns-in-Err : goal.returns-in-Err
returns-in-Err g c =
    let a = c.args in
    let s = a.self.now in
    let o = s.options.now in
    tried g.F.Files a.files.now a.file (keytab_in o.v1_order) (Err c.in-Err.why) o.json
    (λ k. page_of o s.are_several a.explained a.file.name.now (found o s.aged_by (g.F.Files.mode c.try_open.new.files) k)) _
    c.try_open.new.files (rw (c.in-Err.is, ap (λ (x : KeytabCheck). x.v1_order) c.options.view_is) at c.try_open.ensures) (inr (rw (ap (λ (x : KeytabCheck). x.json) c.options.view_is) at c.refused.ensures))

pub returns : goal.returns
returns g c =
    let a = c.args in
    let s = a.self.now in
    let o = s.options.now in
    tried g.F.Files a.files.now a.file (keytab_in o.v1_order) (Ok c.in-Ok.keytab.state) o.json
    (λ k. page_of o s.are_several a.explained a.file.name.now (found o s.aged_by (g.F.Files.mode c.try_open.new.files) k)) _
    c.try_open.new.files (rw (c.in-Ok.is, ap (λ (x : KeytabCheck). x.v1_order) c.options.view_is) at c.try_open.ensures) (rw c.mode.ensures at c.shown.ensures)
