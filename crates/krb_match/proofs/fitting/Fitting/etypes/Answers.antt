use Rattle.krb_match.proofs.ForAnswers.{◌∙◌, sym, ap, arith, ℕ, ◌+◌, ◌-◌, List, length, length_push, etypes_from, no_more_etypes, no_turns, one_more_etype}
use Rattle.krb_match.proofs.fitting.Fitting.etypes.Goals as goal

pub returns-in_default : goal.returns-in_default
returns-in_default c = λ xs united.
    let is = sym (c.next.ensures xs united) ∙ c.in_default.is in
    c.of.ensures ∙ sym (no_more_etypes (9 - c.turns.counter) c.turns.found.items c.as_slice.result.now xs c.as_slice.ensures.value is) ∙ c.turns.invariant.all xs united

pub turns-preserved : goal.turns-preserved
turns-preserved c = record {
  turn = ap length c.push.ensures.items ∙ length_push c.turns.found.items c.in-Some.etype ∙ ap (λ (n : ℕ). n + 1) c.turns.invariant.turn;
  all = λ xs united.
      let is = sym (c.next.ensures xs united) ∙ c.in-Some.is in
      let lt = c.turns-test.true in
      ap (λ (l : List ℕ). etypes_from (9 - (c.turns.counter + 1)) l xs) c.push.ensures.items
      ∙ one_more_etype (9 - c.turns.counter) (9 - (c.turns.counter + 1)) c.turns.found.items c.as_slice.result.now xs c.in-Some.field-0-0 c.in-Some.etype (omega (arith, lt)) c.as_slice.ensures.value is
      ∙ c.turns.invariant.all xs united;
}

pub returns : goal.returns
returns c = λ xs united.
    let end = c.turns-test.false in
    c.of-2.ensures ∙ sym (no_turns (9 - c.turns.counter) c.turns.found.items xs (omega (arith, end))) ∙ c.turns.invariant.all xs united
