use Rattle.krb_walk.proofs.Stops.{walks_begin_with_all, stops_give_records, stops_end}
use Rattle.krb_walk.proofs.laws.stops.stops_go_through_all_records.Goals as goal

pub returns-clause-begins : goal.returns-clause-begins
returns-clause-begins c = walks_begin_with_all

pub returns-clause-stops : goal.returns-clause-stops
returns-clause-stops c = stops_give_records

pub returns-clause-ends : goal.returns-clause-ends
returns-clause-ends c = stops_end
