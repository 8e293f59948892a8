use Rattle.krb_ktutil.proofs.ForAnswers.{◌≡◌, ◌∙◌, length, drop, arith, err_from_is_err_and, HasNone, Grows-trans, IsFirst-earlier, HasNone-earlier, HasNone-grown, HasNone-sooner, none_up_to}
use Rattle.krb_ktutil.proofs.input_lines.read_to_newline.Goals as goal

-- the newline is beyond what an input may have
pub returns-in-Some-clause-none : goal.returns-in-Some-clause-none
returns-in-Some-clause-none g c =
    let first = IsFirst-earlier c.reads.bytes.items c.args.next c.reads.seen c.in-Some.end c.reads.invariant.ahead.0 c.reads.invariant.none (rw (c.deref.ensures.value) at c.in-Some.ensures) in
    HasNone-sooner c.reads.bytes.items c.args.next c.in-Some.end 16777216 (let far = c.if-end-most.false in omega (arith, far)) first.before

-- there is no newline, and no more may be read
pub returns-then-seen-most-clause-none : goal.returns-then-seen-most-clause-none
returns-then-seen-most-clause-none g c = none_up_to c.reads.bytes.items c.args.next c.reads.seen 16777216 c.reads.invariant.ahead.0 c.reads.invariant.none (rw (c.deref.ensures.value) at c.in_default.ensures)

-- there is no newline, and the read failed
pub returns-in_err-last-clause-none : goal.returns-in_err-last-clause-none
returns-in_err-last-clause-none g c =
    let p = err_from_is_err_and c.from_residual.result c.from_residual.ensures.1 in
    rw (p.1, c.in_err-last.ensures.same) (none_up_to c.reads.bytes.items c.args.next c.reads.seen 16777216 c.reads.invariant.ahead.0 c.reads.invariant.none (rw (c.deref.ensures.value) at c.in_default.ensures))

-- more was given
pub reads-preserved : goal.reads-preserved
reads-preserved g c =
    let old = c.reads.bytes in
    let given = c.in_ok-last.ensures.given in
    let len = c.in_ok-last.ensures.len in
    let was = old.ok.0 in
    let seen = c.len-seen.ensures in
    let ahead = c.reads.invariant.ahead in
    let none : HasNone (drop c.args.next old.items) =
    HasNone-earlier old.items c.args.next c.reads.seen ahead.0 c.reads.invariant.none (rw (c.deref.ensures.value) at c.in_default.ensures) in
    let at_end : length old.items ≡ c.len-seen.result = omega (arith, was, seen) in
    record {
      within = (let room = c.min-room.ensures in let most = c.if-seen-most.false in omega (arith, room, most, len, seen));
      ahead = (omega (arith, ahead, seen), omega (arith, len, seen));
      failed = c.in_ok-last.ensures.failed ∙ c.reads.invariant.failed;
      none = rw at_end at (HasNone-grown old.items c.append_read.new.bytes.items given.0 c.args.next given.1 (omega (arith, ahead, was)) none);
      grows = Grows-trans _ _ _ _ _ _ c.reads.invariant.grows (record { given = given.0; read = given.1; consumes = given.2 });
    }
