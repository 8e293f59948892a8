use Rattle.krb_readers.proofs.Cited.{◌∙◌, ap, inr, Err, err_from_is_err_and, makes-end, Ends}
use Rattle.krb_readers.specs.Show.{shows}
use Rattle.krb_readers.proofs.show.ShowFilesOverFiles.make.Goals as goal

pub returns-in_err-of : goal.returns-in_err-of
returns-in_err-of g c =
    let p = err_from_is_err_and c.from_residual.result c.from_residual.ensures.1 in
    rw (p.1 ∙ ap Err p.2) (record {
      makes = c.in_err-of.ensures (λ k. Ends (shows c.args.self.now.now c.args.is_after c.args.file.name.now (g.F.Files.mode c.open.new.files) k));
      fair = inr tt;
    })

pub returns : goal.returns
returns g c = record {
  makes = c.in_ok-of.ensures (λ k. Ends (shows c.args.self.now.now c.args.is_after c.args.file.name.now (g.F.Files.mode c.open.new.files) k)) _ _ (makes-end g.F.Files c.open.new.files _ _ (rw c.mode.ensures at c.shown.ensures));
  fair = inr tt;
}
