use Rattle.krb_ccache.proofs.Cited.{List, ℕ, ap, sym, ◌∙◌, header_at, open_header}
use Rattle.krb_ccache.proofs.PlaceLemmas.{no_header, no_default, front_is, tail_is, places_are}
use Rattle.krb_ccache.proofs.open.read_places.Goals as goal

pub returns-in_default-clause-err : goal.returns-in_default-clause-err
returns-in_default-clause-err c = λ limit. ap (λ (b : List ℕ). open_header c.args.version limit (header_at c.args.version b)) (sym c.tail-rest.ensures) ∙ no_header c.args.version c.tail-rest.result.now limit c.in_default.ensures

pub returns-in_default-split_cc_principal-clause-err :
    goal.returns-in_default-split_cc_principal-clause-err
returns-in_default-split_cc_principal-clause-err c = λ limit.
    ap (λ (b : List ℕ). open_header c.args.version limit (header_at c.args.version b)) (sym c.tail-rest.ensures)
    ∙ no_default c.args.version c.tail-rest.result.now c.in-Some.after.now limit c.in-Some.ensures c.in_default-split_cc_principal.ensures

pub overflow_sub-principal : goal.overflow_sub-principal
overflow_sub-principal c =
    let front = front_is c.args.version c.args.image.now c.tail-rest.result.now c.in-Some.after.now _ c.in-Some-split_cc_principal.cells.now c.bytes_fit.ensures c.tail-rest.ensures c.in-Some.ensures c.in-Some-split_cc_principal.ensures in
    (tail_is c.args.image.now c.in-Some.after.now front.after_ends).0

pub overflow_sub-first : goal.overflow_sub-first
overflow_sub-first c =
    let front = front_is c.args.version c.args.image.now c.tail-rest.result.now c.in-Some.after.now _ c.in-Some-split_cc_principal.cells.now c.bytes_fit.ensures c.tail-rest.ensures c.in-Some.ensures c.in-Some-split_cc_principal.ensures in
    (tail_is c.args.image.now c.in-Some-split_cc_principal.cells.now front.cells_end).0

pub returns-clause-ok : goal.returns-clause-ok
returns-clause-ok c =
    places_are c.args.version c.args.image.now c.tail-rest.result.now c.in-Some.after.now _ c.in-Some-split_cc_principal.cells.now c.credentials_len-len.result
    c.bytes_fit.ensures c.tail-rest.ensures c.in-Some.ensures c.in-Some-split_cc_principal.ensures c.credentials_len-len.ensures.value c.credentials_len-len.ensures.within
