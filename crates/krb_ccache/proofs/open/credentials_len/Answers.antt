use Rattle.krb_ccache.proofs.Cited.{arith}
use Rattle.krb_ccache.proofs.CellLemmas.{read_left}
use Rattle.krb_ccache.proofs.PlaceLemmas.{len_step, len_end}
use Rattle.krb_ccache.proofs.open.credentials_len.Goals as goal

pub loop-after-init : goal.loop-after-init
loop-after-init c = record { all = omega arith; within = omega arith; fits = λ i. omega (arith, c.type_inv.bytes i) }

pub loop-after-smaller : goal.loop-after-smaller
loop-after-smaller c = (read_left c.args.version c.loop-after.rest.now _ c.in-Some.after.now c.loop-after.invariant.fits c.in-Some.ensures).1

pub loop-after-preserved : goal.loop-after-preserved
loop-after-preserved c = search (arith, len_step, read_left)

pub returns-clause-value : goal.returns-clause-value
returns-clause-value c = search (arith, len_end)
