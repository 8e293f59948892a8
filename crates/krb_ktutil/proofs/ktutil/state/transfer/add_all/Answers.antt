use Rattle.krb_ktutil.proofs.ForAnswers.{sym, ap, ◌∙◌, Ok, List, drop, ◌∷◌, err_from_is_err_and, EntryParts, Added, none_added, with_added, suc, drop-cons, refuses_added}
use Rattle.krb_ktutil.proofs.ktutil.state.transfer.add_all.Goals as goal

pub returns-in_err-place-clause-err : goal.returns-in_err-place-clause-err
returns-in_err-place-clause-err g c =
    let p = err_from_is_err_and c.from_residual.result c.from_residual.ensures.1 in
    let others = drop (suc c.entries.entry-index) c.args.entries.now in
    let x : Added = record { keytab = c.entries.keytab.state; places = c.entries.places.items } in
    let left = drop-cons c.args.entries.now c.entries.entry-index c.entry-item.result c.entries-test.true ∙ ap (λ (e : EntryParts). e ∷ others) (sym c.entry-item.is) in
    rw (p.1, p.2) (refuses_added c.entry-item.result others x c.add.new.self.state c.in_err-place.field-0.0 (with_added c.args.entries.now (Ok (none_added c.args.keytab.now.state))) c.in_err-place.ensures.gives
    (sym (ap (λ (es : List EntryParts). with_added es (Ok x)) left) ∙ c.entries.invariant))
