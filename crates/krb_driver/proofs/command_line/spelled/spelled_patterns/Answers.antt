use Rattle.krb_driver.proofs.ForAnswers.{result_err, map_push, principal_parts, mistake_parts, each, spelled_pattern, err_from_is_err_and, mistake_here, mistakes_left, no_mistake, value_if_ok, values_more, ◌≡◌, ℕ, List, Some, ap, subst, ◌∙◌, map}
use Rattle.krb_driver.proofs.command_line.spelled.spelled_patterns.Goals as goal

pub words-preserved : goal.words-preserved
words-preserved g c =
    let is = c.in_ok-pattern.ensures in (
      mistakes_left spelled_pattern c.values-words.result.now c.words.word-index _ c.words-test.true (no_mistake principal_parts _ c.in_ok-pattern.pattern is) c.words.invariant.0,
      values_more spelled_pattern c.values-words.result.now c.words.word-index _ c.words-test.true (λ patterns. map principal_parts patterns.items) principal_parts (λ all given v is. ap (map principal_parts) is ∙ map_push principal_parts given.items v)
          c.words.patterns c.in_ok-pattern.pattern c.added-patterns.result c.words.invariant.1 (value_if_ok principal_parts _ c.in_ok-pattern.pattern is) c.added-patterns.ensures,
    )

pub returns-in_err-pattern : goal.returns-in_err-pattern
returns-in_err-pattern g c =
    let p = err_from_is_err_and c.from_residual.result c.from_residual.ensures.1 in
    rw (p.1, p.2) (subst (λ (ws : List (List ℕ)). result_err (each spelled_pattern ws) ≡ Some (mistake_parts c.in_err-pattern.field-0.0)) c.values-words.ensures
    (mistake_here spelled_pattern c.values-words.result.now c.words.word-index _ c.words-test.true _ c.in_err-pattern.ensures c.words.invariant.0))
