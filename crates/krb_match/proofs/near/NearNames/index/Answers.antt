use Rattle.krb_match.proofs.ForAnswers.{◌∙◌, ap₂, bare_key, bytes_eq, folded_key, lesser, first_either}
use Rattle.krb_match.proofs.near.NearNames.index.Goals as goal

pub returns : goal.returns
returns g c = λ xs near.
    let p = g.N.Name.parts c.args.name.now in
    let folded = rw (c.deref.ensures.value ∙ c.in_ok-folded_key.ensures) at (c.index-folded.ensures _ near.folded_are) in
    let bare = rw (c.deref-2.ensures.value ∙ c.in_ok-bare_key.ensures) at (c.index.ensures _ near.bare_are) in
    c.lesser.ensures ∙ ap₂ lesser folded bare ∙ first_either (λ x. folded_key x.1.principal) (λ x. bare_key x.1.principal) (bytes_eq (folded_key p)) (bytes_eq (bare_key p)) 0 xs
