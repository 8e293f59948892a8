use Rattle.krb_editors.proofs.Cited.{refl, arith, [], false, subst, Bool, drop_all, FileName, Keytab, LooksFor}
use Rattle.krb_driver.specs.declared.file_name.NameSource.TheVariants.{Word}
use Rattle.krb_editors.proofs.Looking.{one_more, or_false}
use Rattle.krb_editors.proofs.missing_files.look_for_all.Goals as goal

-- no file
abbrev none : FileName
none = record { kind = Keytab; name = record { ref_ptr = (0, 0); now = [] }; is_other_type = false; source = Word; in_place = false }

pub names-preserved : goal.names-preserved
names-preserved g c = one_more g.F.Files _ _ c.names.file-index none _ _ _ _ _ (omega arith) c.names.invariant c.look_for-is_one_missing.ensures

pub returns : goal.returns
returns g c = subst (λ (b : Bool). LooksFor g.F.Files c.args.files.now c.args.names.now c.args.err.now c.names.err b) (or_false c.names.is_one_missing) (c.names.invariant _ false (rw (drop_all c.names.file-index c.args.names.now (omega arith)) (refl, refl)))
