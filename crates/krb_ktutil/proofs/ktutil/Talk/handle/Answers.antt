use Rattle.krb_ktutil.proofs.ForAnswers.{refl, line_effect, Talk, goes_on, handles}
use Rattle.krb_ktutil.proofs.ktutil.Talk.handle.Goals as goal

-- the end of a line decides whether another may come, and the output
pub returns-clause-next : goal.returns-clause-next
returns-clause-next g c =
    let world = c.args.world.now in
    let talk = c.args.self.now in
    let finished = c.finish-end.new.world in
    let made = c.line-made.result in
    let end = c.finish-end.result in
    let old : Talk g.row.F.Denot = record { files = world.files; state = talk.ktutil; out = world.out; err = world.err; status = talk.status } in
    let new : Talk g.row.F.Denot = record { files = finished.files; state = c.line-made.new.self; out = finished.out; err = finished.err; status = c.max-self.result } in
    rw c.goes_on.ensures (handles g.F.Files talk.now c.args.number c.args.line.now old new c.line-made.new.files (line_effect made) made.quits c.line-made.ensures.made end c.finish-end.ensures.finishes
    c.line-made.ensures.spared c.max-self.ensures (goes_on made.quits end.ending) c.has_failed.result refl c.has_failed.ensures)
