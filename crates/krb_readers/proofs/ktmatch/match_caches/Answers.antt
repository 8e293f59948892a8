use Rattle.krb_readers.proofs.Cited.{refl, inl, inr, arith, [], false, drop_all, FileName}
use Rattle.krb_driver.specs.declared.file_name.NameSource.TheVariants.{Word}
use Rattle.krb_driver.specs.declared.verdict.FileKind.TheVariants.{Keytab}
use Rattle.krb_readers.proofs.Matched.{one_more}
use Rattle.krb_readers.proofs.ktmatch.match_caches.Goals as goal

-- no file
abbrev none : FileName
none = record { kind = Keytab; name = record { ref_ptr = (0, 0); now = [] }; is_other_type = false; source = Word; in_place = false }

pub names-preserved : goal.names-preserved
names-preserved g c = λ end rest. one_more g.F.Files _ _ c.args.names.now c.names.file-index none _ _ _ (omega arith) c.names.invariant c.match_next-ran.ensures end (inr (c.if-ran.false, rest))

pub returns-then-ran : goal.returns-then-ran
returns-then-ran g c = one_more g.F.Files _ _ c.args.names.now c.names.file-index none _ _ _ (omega arith) c.names.invariant c.match_next-ran.ensures _ (inl (c.if-ran.true, refl))

pub returns : goal.returns
returns g c = c.names.invariant _ (rw (drop_all c.names.file-index c.args.names.now (omega arith)) refl)
