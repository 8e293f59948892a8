use Rattle.krb_ktutil.proofs.ForAnswers.{◌≡◌, refl, length, arith, ReadsLine-first, ReadsLine-last}
use Rattle.krb_ktutil.proofs.input_lines.InputLines.read_line.Goals as goal

-- the line up to the newline
pub returns-in-Some-clause-line : goal.returns-in-Some-clause-line
returns-in-Some-clause-line g c =
    rw (← c.self.view_is) (ReadsLine-first _ _ _ _ c.in-Some.end (omega (arith, c.self.invariant, c.self.inside.bytes.ok.0)) (rw (c.in-Some.is) at c.in_ok-end.ensures.ok) c.in_ok-end.ensures.grows refl refl
    (rw (c.in-Some.is) at c.in_ok-end.ensures.most))

-- the line up to the end of the input, or nothing
pub returns-in-None-clause-line : goal.returns-in-None-clause-line
returns-in-None-clause-line g c =
    let ends = rw (c.in-None.is) at c.in_ok-end.ensures.ok in
    let len : c.len-end.result ≡ length c.read_to_newline.new.bytes.items = (let is = c.len-end.ensures in omega (arith, is, c.read_to_newline.new.bytes.ok.0)) in
    rw (← c.self.view_is, len) (ReadsLine-last _ _ _ ends.0 ends.1 refl refl)
