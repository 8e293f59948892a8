use Rattle.krb_ccache.proofs.Cited.{refl, arith}
use Rattle.krb_ccache.proofs.MarkLemmas.{times_room, times_here, around, marked_is, times_left}
use Rattle.krb_ccache.proofs.mark.mark.Goals as goal

pub unreachable-requires : goal.unreachable-requires
unreachable-requires c = search (arith, times_here)

pub overflow_sub-authtime : goal.overflow_sub-authtime
overflow_sub-authtime c = search (arith, times_room)

pub put_time-requires : goal.put_time-requires
put_time-requires c = search (arith, times_room)

pub put_time-requires-2 : goal.put_time-requires-2
put_time-requires-2 c = search (arith, times_room)

pub returns-clause-marked : goal.returns-clause-marked
returns-clause-marked c = λ x rest read.
    let w = around _ _ c.args.place x rest c.bytes_fit.ensures c.requires.within read in
    let t = times_left _ _ c.tail.result.now c.in-Some.times.now c.args.place x rest w c.tail.ensures c.in-Some.ensures in
    marked_is _ _ c.put_time.new.image c.put_time-2.new.image c.args.place _ _ _ _ x rest w c.requires.within (omega (arith, t.0)) refl refl refl c.put_time.ensures c.put_time-2.ensures
