use Rattle.krb_readers.proofs.Cited.{◌∙◌, ap, inr, Err, err_from_is_err_and, makes-end, Ends, fault_of, store_of, Displays, keytab_shown, page}
unfoldable use Rattle.krb_driver.specs.Commands.{always}
use Rattle.krb_readers.proofs.klist.ListFilesOverFiles.make.Goals as goal

pub returns-in_err-keytab-in-Keytab : goal.returns-in_err-keytab-in-Keytab
unfolding always
returns-in_err-keytab-in-Keytab g c =
    let p = err_from_is_err_and c.from_residual.result c.from_residual.ensures.1 in
    let o = c.args.self.now.options.now in
    let file = c.args.file.name.now in
    rw (c.in-Keytab.is, p.1 ∙ ap Err p.2) (record {
      makes = c.in_err-keytab-in-Keytab.ensures (λ k. Ends (Displays file (page o.json c.args.is_after (keytab_shown o.json c.in-Keytab.columns file k) (fault_of (store_of k)))));
      fair = inr tt;
    })

pub returns-in_ok-keytab-in-Keytab : goal.returns-in_ok-keytab-in-Keytab
unfolding always
returns-in_ok-keytab-in-Keytab g c =
    let o = c.args.self.now.options.now in
    let file = c.args.file.name.now in
    rw c.in-Keytab.is (record {
      makes = c.in_ok-keytab-in-Keytab.ensures (λ k. Ends (Displays file (page o.json c.args.is_after (keytab_shown o.json c.in-Keytab.columns file k) (fault_of (store_of k))))) _ _ (makes-end g.F.Files c.open.new.files _ _ c.shown.ensures);
      fair = inr tt;
    })
