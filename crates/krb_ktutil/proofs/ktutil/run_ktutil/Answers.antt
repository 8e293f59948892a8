use Rattle.krb_ktutil.proofs.ForAnswers.{◌≡◌, Bool, ap, refl, sym, ◌∙◌, max, Err, first_talk, error_status, input_error, ◌||◌, end_status, end_status-none, Source, is_failed, Prompts-first, Underway-first, Underway-line, RunsKtutil-after, RunsKtutil-in_line, RunsKtutil-unread}
use Rattle.krb_ktutil.proofs.ktutil.run_ktutil.Goals as goal

pub lines-init : goal.lines-init
lines-init g c = (
  c.new-talk.ensures.now,
  refl,
  rw (c.new-talk.ensures.state, c.new-talk.ensures.status)
      (Underway-first g.F.Files c.args.prompts c.args.now c.args.world.now.input.left (first_talk c.args.v1_order c.args.world.now.files c.args.world.now.out c.args.world.now.err) c.new-lines.result c.new-lines.ensures),
)

-- the input has ended
pub returns-in-Ok-false : goal.returns-in-Ok-false
returns-in-Ok-false g c =
    let prompted = Prompts-first c.args.prompts _ c.lines.world.err c.show_prompt.new.err (rw c.prompt.ensures at c.show_prompt.ensures) in
    RunsKtutil-after _ _ c.lines.invariant.2 c.in-Ok-false.ensures.grows c.in-Ok-false.ensures.within _ (c.show_prompt-in-Ok-false.ensures c.lines.world.err _ prompted)
    (rw c.in-Ok-false.field-0-test at c.in-Ok-false.ensures.line) (c.in-Ok-false.ensures.failed ∙ c.lines.invariant.1)

-- it could not be read
pub returns-in-Err : goal.returns-in-Err
returns-in-Err g c =
    let prompted = Prompts-first c.args.prompts _ c.lines.world.err c.show_prompt.new.err (rw c.prompt.ensures at c.show_prompt.ensures) in
    let details = c.unsaved-details.result in
    let why = input_error c.in-Err.fault in
    let reported = rw c.of_input-error.ensures at c.report-status.ensures in
    let is : error_status why ≡ end_status (Err why) details.aftermath = end_status-none (Err why) details.aftermath c.unsaved-details.ensures.aftermath in
    RunsKtutil-unread _ _ c.lines.invariant.2 c.in-Err.ensures.grows c.in-Err.ensures.within c.in-Err.fault details _ _ _ prompted c.in-Err.ensures.no_more (c.in-Err.ensures.failed ∙ ap (λ (b : Bool). is_failed c.in-Err.fault || b) c.lines.invariant.1) c.in-Err.ensures.never
    (λ e. c.in-Err.ensures.too_large (ap Err e)) reported.reports c.unsaved-details.ensures.aftermath (c.max.ensures ∙ ap (max c.lines.talk.status) (reported.status_is ∙ sym is))

-- a line was the last
pub returns-then-not-handle : goal.returns-then-not-handle
returns-then-not-handle g c =
    let prompted = Prompts-first c.args.prompts _ c.lines.world.err c.show_prompt.new.err (rw c.prompt.ensures at c.show_prompt.ensures) in
    let stops = rw (c.line.ensures, c.lines.invariant.0) at c.if-not-handle.ensures.next in
    rw c.if-not-handle.ensures.input (RunsKtutil-in_line _ _ c.lines.invariant.2 c.in-Ok-true.ensures.grows c.in-Ok-true.ensures.within _ c.show_prompt.new.err prompted
    (rw c.in-Ok-true.field-0-test at c.in-Ok-true.ensures.line) (c.in-Ok-true.ensures.failed ∙ c.lines.invariant.1) stops)

pub lines-preserved : goal.lines-preserved
lines-preserved g c =
    let prompted = Prompts-first c.args.prompts _ c.lines.world.err c.show_prompt.new.err (rw c.prompt.ensures at c.show_prompt.ensures) in
    let line = rw c.in-Ok-true.field-0-test at c.in-Ok-true.ensures.line in
    let continues = rw (c.line.ensures, c.lines.invariant.0) at c.if-not-handle.ensures.next in
    let input = c.if-not-handle.ensures.input in (
      c.if-not-handle.ensures.now ∙ c.lines.invariant.0,
      ap (λ (i : Source). i.failed) input ∙ c.in-Ok-true.ensures.failed ∙ c.lines.invariant.1,
      rw input (Underway-line g.F.Files c.args.prompts c.args.now _ _ c.lines.lines c.read_line.new.self _ _ c.lines.number _ _ c.show_prompt.new.err c.lines.invariant.2 line c.in-Ok-true.ensures.grows c.in-Ok-true.ensures.within prompted continues),
    )
