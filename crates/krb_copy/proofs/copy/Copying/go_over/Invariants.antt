use Rattle.krb_copy.proofs.ForAnswers.{drop, Run, asked_as, new_in, run_over, IsRun, IsOnTheWay}
use Rattle.krb_copy.proofs.copy.Copying.go_over.Given as goal

-- the run over the entries that are left comes to what the whole run comes to
abbrev pub invariant-asked : goal.invariant-asked
invariant-asked g l = (run : Run) → IsRun run (asked_as (new_in l.new) l.asked) l.fn.self
    → IsOnTheWay (run_over l.fn.self.replace (asked_as (new_in l.new) l.asked) run) l.fn.self.replace (asked_as (new_in l.new) (drop l.place-index l.asked)) l.self
