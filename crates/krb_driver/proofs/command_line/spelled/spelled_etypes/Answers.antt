use Rattle.krb_driver.proofs.ForAnswers.{result_err, vec_items, mistake_parts, selected_etypes, spelled_etypes, err_from_is_err_and, lists_more, mapped_err, mistake_here, mistakes_left, no_mistake, value_if_ok, ◌≡◌, ℕ, List, Some, subst, ◌∙◌}
use Rattle.krb_driver.proofs.command_line.spelled.spelled_etypes.Goals as goal

pub words-preserved : goal.words-preserved
words-preserved g c =
    let is = c.in_ok-more.ensures in (
      mistakes_left selected_etypes c.values-words.result.now c.words.word-index _ c.words-test.true (no_mistake vec_items _ c.in_ok-more.more is) c.words.invariant.0,
      lists_more selected_etypes c.values-words.result.now c.words.word-index _ c.words-test.true
          c.words.etypes c.in_ok-more.more c.joined-etypes.result c.words.invariant.1 (value_if_ok vec_items _ c.in_ok-more.more is) c.joined-etypes.ensures,
    )

pub returns-in_err-more : goal.returns-in_err-more
returns-in_err-more g c =
    let p = err_from_is_err_and c.from_residual.result c.from_residual.ensures.1 in
    rw (p.1, p.2) (subst (λ (ws : List (List ℕ)). result_err (spelled_etypes ws) ≡ Some (mistake_parts c.in_err-more.field-0.0)) c.values-words.ensures
    (mapped_err _ _ ∙ mistake_here selected_etypes c.values-words.result.now c.words.word-index _ c.words-test.true _ c.in_err-more.ensures c.words.invariant.0))
