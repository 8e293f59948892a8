use Rattle.krb_audit.proofs.ForAnswers.{length, arith, sum_by, size, holes, cell_of, added_ge, hole_added, hole_counted, holes_few, holes_small}
use Rattle.krb_audit.proofs.counts.count_holes.Goals as goal

pub overflow_add-holes : goal.overflow_add-holes
overflow_add-holes g c = search (arith, cell_of, hole_counted, length, holes, holes_few)

pub overflow_add-holes-in-Free : goal.overflow_add-holes-in-Free
overflow_add-holes-in-Free g c = search (arith, cell_of, hole_added, sum_by, size, holes, added_ge, length, holes_small)
