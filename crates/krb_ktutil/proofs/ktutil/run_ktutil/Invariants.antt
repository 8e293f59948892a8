use Rattle.krb_ktutil.proofs.ForAnswers.{◌≡◌, ◌-◌, first_talk, Underway}
use Rattle.krb_ktutil.proofs.ktutil.run_ktutil.Given as goal

abbrev pub invariant-lines : goal.invariant-lines
invariant-lines g l =
    let first = l.fn.world in
    (l.talk.now ≡ l.fn.now) × (l.world.input.failed ≡ first.input.failed) × Underway g.F.Files l.fn.prompts l.now first.input.left (first_talk l.fn.v1_order first.files first.out first.err) l.lines l.world.input.left l.number
    (record { files = l.world.files; state = l.talk.ktutil; out = l.world.out; err = l.world.err; status = l.talk.status })

abbrev pub decreases-lines : goal.decreases-lines
decreases-lines g l = 16777218 - l.lines.next
