use Rattle.krb_driver.proofs.ForAnswers.{refl, sym, ◌∙◌, arith, [], false, drop_all, Keytab, FileName, last_one, one_more}
use Rattle.krb_driver.specs.declared.file_name.NameSource.TheVariants.{Word}
use Rattle.krb_driver.proofs.several.run_over.Goals as goal

-- no file
abbrev none : FileName
none = record { kind = Keytab; name = record { ref_ptr = (0, 0); now = [] }; is_other_type = false; source = Word; in_place = false }

pub names-preserved : goal.names-preserved
names-preserved g c =
    one_more g.F.Files _ _ c.args.names.now c.names.file-index none _ _ _ c.run_file-end.result (omega arith) c.names.invariant
    (record { runs = c.run_file-end.ensures; state = c.with-ran.ensures.state ∙ c.after.ensures; worst = c.with-ran.ensures.status }) (sym c.is_last.ensures ∙ c.if-is_last.false)

pub returns-then-is_last : goal.returns-then-is_last
returns-then-is_last g c =
    last_one g.F.Files _ _ c.args.names.now c.names.file-index none _ _ _ c.run_file-end.result (omega arith) c.names.invariant
    (record { runs = c.run_file-end.ensures; state = c.with-ran.ensures.state ∙ c.after.ensures; worst = c.with-ran.ensures.status }) (sym c.is_last.ensures ∙ c.if-is_last.true)

pub returns : goal.returns
returns g c = c.names.invariant _ (rw (drop_all c.names.file-index c.args.names.now (omega arith)) refl)
