use Rattle.krb_driver.proofs.ForAnswers.{result_err, map_push, vec_items, mistake_parts, each, printed_name, err_from_is_err_and, mistake_here, mistakes_left, no_mistake, value_if_ok, values_more, ◌≡◌, ℕ, List, Some, ap, subst, ◌∙◌, map}
use Rattle.krb_driver.proofs.command_line.spelled.spelled_names.Goals as goal

pub words-preserved : goal.words-preserved
words-preserved g c =
    let is = c.in_ok-name.ensures in (
      mistakes_left printed_name c.values-words.result.now c.words.word-index _ c.words-test.true (no_mistake vec_items _ c.in_ok-name.name is) c.words.invariant.0,
      values_more printed_name c.values-words.result.now c.words.word-index _ c.words-test.true (λ names. map vec_items names.items) vec_items (λ all given v is. ap (map vec_items) is ∙ map_push vec_items given.items v)
          c.words.names c.in_ok-name.name c.added-names.result c.words.invariant.1 (value_if_ok vec_items _ c.in_ok-name.name is) c.added-names.ensures,
    )

pub returns-in_err-name : goal.returns-in_err-name
returns-in_err-name g c =
    let p = err_from_is_err_and c.from_residual.result c.from_residual.ensures.1 in
    rw (p.1, p.2) (subst (λ (ws : List (List ℕ)). result_err (each printed_name ws) ≡ Some (mistake_parts c.in_err-name.field-0.0)) c.values-words.ensures
    (mistake_here printed_name c.values-words.result.now c.words.word-index _ c.words-test.true _ c.in_err-name.ensures c.words.invariant.0))
