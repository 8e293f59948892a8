use Rattle.krb_names.proofs.Cited.{◌≡◌, [], ◌∷◌, bytes_eq-Decides, ◌∙◌, sym, ap, arith, List, ℕ, ◌+◌, Bool, length, ◌&&◌, false}
use Rattle.std.proofs.Common.{drop}
use Rattle.krb_names.specs.Patterns.{fits_bytes, of_some_rest, star}
use Rattle.krb_names.proofs.PatternLemmas.{fits_part, fits_short, fits_star}
use Rattle.krb_names.proofs.patterns.fits_bytes.Goals as goal

pub returns-then-eq : goal.returns-then-eq
returns-then-eq c =
    let is : c.args.pattern.now ≡ star ∷ [] = (bytes_eq-Decides c.args.pattern.now c.as_slice.result.now).0 (sym c.eq.ensures ∙ c.if-eq.true) ∙ c.as_slice.ensures in
    sym (ap (λ (p : List ℕ). fits_bytes p c.args.bytes.now) is ∙ fits_star c.args.bytes.now)

pub returns-in_default : goal.returns-in_default
returns-in_default c = c.eq-in_default.ensures ∙ sym (fits_short (length c.args.bytes.now + 1) c.args.pattern.now c.args.bytes.now (omega arith) c.in_default.ensures)

pub returns-then-starts_with : goal.returns-then-starts_with
returns-then-starts_with c =
    let bytes = c.args.bytes.now in
    let part = c.in-Some.part.now in
    let rest = c.in-Some.rest.now in
    let is = sym c.starts_with.ensures.value ∙ c.if-starts_with.true in
    c.fits_after_star.ensures ∙ ap (of_some_rest (fits_bytes rest)) c.split_at.ensures.back
    ∙ ap (λ (b : Bool). b && of_some_rest (fits_bytes rest) (drop (length part) bytes)) (sym is)
    ∙ sym (fits_part part rest bytes c.in-Some.ensures.1) ∙ ap (λ (p : List ℕ). fits_bytes p bytes) (sym c.in-Some.ensures.0)

pub returns-else-starts_with : goal.returns-else-starts_with
returns-else-starts_with c =
    let bytes = c.args.bytes.now in
    let part = c.in-Some.part.now in
    let rest = c.in-Some.rest.now in
    let is = sym c.starts_with.ensures.value ∙ c.if-starts_with.false in
    c.if-starts_with.false ∙ ap (λ (b : Bool). b && of_some_rest (fits_bytes rest) (drop (length part) bytes)) (sym is)
    ∙ sym (fits_part part rest bytes c.in-Some.ensures.1) ∙ ap (λ (p : List ℕ). fits_bytes p bytes) (sym c.in-Some.ensures.0)
