use Rattle.krb_json.proofs.ForAnswers.{ap, ◌∙◌, [], err_from_is_err_and, config_name, cons_option, shown_by, shown_values, PlacedCredential, adds_all, adds_more, adds_no_more, adds_none, cons_front}
use Rattle.krb_json.proofs.cache.send_shown.Goals as goal

pub credentials-init : goal.credentials-init
credentials-init g c = adds_none _ _ _ _ c.requires.well c.requires.empty (ap (shown_values c.args.shown) (c.into_iter-place-iterator.ensures.into_iter_gives ∙ c.credentials-place-items.ensures))

pub returns-in_err-send_if_shown : goal.returns-in_err-send_if_shown
returns-in_err-send_if_shown g c =
    let p = err_from_is_err_and c.from_residual.result c.from_residual.ensures.1 in
    let x : PlacedCredential = (c.in-Some.place, c.in-Some.credential) in
    let shown = shown_by c.args.shown (config_name x.1.server) x in
    let rest = shown_values c.args.shown c.next.new.self in
    let before = rw (ap (shown_values c.args.shown) c.in-Some.ensures.steps ∙ cons_front shown rest) at c.credentials.invariant in
    rw (p.1, p.2) (adds_no_more (cons_option shown []) rest _ before c.in_err-send_if_shown.ensures)

pub credentials-preserved : goal.credentials-preserved
credentials-preserved g c =
    let x : PlacedCredential = (c.in-Some.place, c.in-Some.credential) in
    let shown = shown_by c.args.shown (config_name x.1.server) x in
    let rest = shown_values c.args.shown c.next.new.self in
    let before = rw (ap (shown_values c.args.shown) c.in-Some.ensures.steps ∙ cons_front shown rest) at c.credentials.invariant in
    adds_more (cons_option shown []) rest _ before c.in_ok-send_if_shown.ensures

pub returns : goal.returns
returns g c = adds_all _ (rw (ap (shown_values c.args.shown) c.in-None.ensures.steps.0) at c.credentials.invariant)
