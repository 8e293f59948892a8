use Rattle.krb_names.proofs.Cited.{◌∙◌, sym, ap, List, ℕ, length}
use Rattle.std.proofs.Common.{drop, drop-drop}
use Rattle.krb_names.specs.Patterns.{fits_bytes, of_some_rest}
use Rattle.krb_names.proofs.PatternLemmas.{fits_end, found_first, found_nowhere, shorter}
use Rattle.krb_names.proofs.patterns.fits_after_star.Goals as goal

pub returns-in_default-find : goal.returns-in_default-find
returns-in_default-find c =
    let bytes = c.loop-part.bytes.now in
    sym (found_nowhere c.in-Some.part.now c.in-Some.rest.now bytes c.in-Some.ensures.1 c.in_default-find.ensures)
    ∙ ap (λ (p : List ℕ). of_some_rest (fits_bytes p) bytes) (sym c.in-Some.ensures.0) ∙ c.loop-part.invariant

pub loop-part-smaller : goal.loop-part-smaller
loop-part-smaller c = shorter c.loop-part.pattern.now c.in-Some.part.now c.in-Some.rest.now c.in-Some.ensures.0

pub loop-part-preserved : goal.loop-part-preserved
loop-part-preserved c =
    let bytes = c.loop-part.bytes.now in
    let part = c.in-Some.part.now in
    let rest = c.in-Some.rest.now in
    let start = c.in-Some-find.start in
    let left = c.split_at-in-Some.ensures.back ∙ ap (drop (length part)) c.split_at.ensures.back ∙ drop-drop (length part) start bytes in
    ap (of_some_rest (fits_bytes rest)) left ∙ sym (found_first part rest bytes start c.in-Some.ensures.1 c.in-Some-find.ensures)
    ∙ ap (λ (p : List ℕ). of_some_rest (fits_bytes p) bytes) (sym c.in-Some.ensures.0) ∙ c.loop-part.invariant

pub returns : goal.returns
returns c = c.ends_with.ensures.value ∙ sym (fits_end c.loop-part.pattern.now c.loop-part.bytes.now c.in_default.ensures) ∙ c.loop-part.invariant
