use Rattle.krb_readers.proofs.Cited.{◌∙◌, ap, inr, Err, err_from_is_err_and, makes-end, Ends, EntrySought, finds}
use Rattle.krb_readers.proofs.ktfind.FindEntryCommand.make.Goals as goal

pub returns-in_err-keytab : goal.returns-in_err-keytab
returns-in_err-keytab g c =
    let p = err_from_is_err_and c.from_residual.result c.from_residual.ensures.1 in
    let find = c.args.self.now in
    rw (p.1 ∙ ap Err p.2) (record {
      makes = (rw (ap (λ (x : EntrySought). x.v1_order) c.options.view_is) at c.in_err-keytab.ensures) (λ k. Ends (finds find.options.now find.file.name.now k));
      fair = inr tt;
    })

pub returns : goal.returns
returns g c =
    let find = c.args.self.now in
    record {
      makes = (rw (ap (λ (x : EntrySought). x.v1_order) c.options.view_is) at c.in_ok-keytab.ensures) (λ k. Ends (finds find.options.now find.file.name.now k)) _ _ (makes-end g.F.Files c.open.new.files _ _ c.find.ensures);
      fair = inr tt;
    }
