use Rattle.krb_json.proofs.ForAnswers.{ap, ◌∙◌, err_from_is_err_and, ◌∷◌, [], map, entry_value, adds_all, adds_more, adds_no_more, adds_none}
use Rattle.krb_json.proofs.keytab.send_entries.Goals as goal

pub entries-init : goal.entries-init
entries-init g c = adds_none _ _ _ _ c.requires.well c.requires.empty (ap (map (entry_value c.args.shows_keys)) (c.into_iter-place-iterator.ensures.into_iter_gives ∙ c.entries-place-items.ensures))

pub returns-in_err-send_entry : goal.returns-in_err-send_entry
returns-in_err-send_entry g c =
    let p = err_from_is_err_and c.from_residual.result c.from_residual.ensures.1 in
    let before = rw (ap (map (entry_value c.args.shows_keys)) c.in-Some.ensures.steps) at c.entries.invariant in
    rw (p.1, p.2) (adds_no_more (entry_value c.args.shows_keys (c.in-Some.place, c.in-Some.entry) ∷ []) _ _ before c.in_err-send_entry.ensures)

pub entries-preserved : goal.entries-preserved
entries-preserved g c =
    let before = rw (ap (map (entry_value c.args.shows_keys)) c.in-Some.ensures.steps) at c.entries.invariant in
    adds_more (entry_value c.args.shows_keys (c.in-Some.place, c.in-Some.entry) ∷ []) _ _ before c.in_ok-send_entry.ensures

pub returns : goal.returns
returns g c = adds_all _ (rw (ap (map (entry_value c.args.shows_keys)) c.in-None.ensures.steps.0) at c.entries.invariant)
