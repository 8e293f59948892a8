use Rattle.krb_ccache.proofs.Cited.{ℕ, ◌+◌, ◌≤◌, Ok, sym, ap, ◌∙◌, arith, length, IsBytes, offset_in, CacheState, create_result, new_preamble, subst}
use Rattle.krb_ccache.proofs.PreambleLemmas.{empty_held, create_fits}
use Rattle.krb_ccache.proofs.ccache.Ccache.create.Goals as goal

pub invariant_of-result : goal.invariant_of-result
invariant_of-result g c =
    let held = empty_held (g.N.Name.parts c.args.default.now) c.args.offset c.image-limit.result _ _ _ c.in-Some.ensures.fits (subst IsBytes c.deref.ensures.value c.bytes_fit.ensures) c.write_preamble.ensures
    (omega (arith, c.in-Some.ensures.some, c.in-Some.ensures.within)) c.image-limit.ensures.most (ap (λ (n : ℕ). 2 + n) c.header_len.ensures) c.in-Some.ensures.some in
    (held.kept, tt)

pub returns-clause-ok : goal.returns-clause-ok
returns-clause-ok g c =
    let p = g.N.Name.parts c.args.default.now in
    let short : length (new_preamble p c.args.offset) ≤ c.image-limit.result = omega (arith, c.in-Some.ensures.some, c.in-Some.ensures.within) in
    let parts = empty_held p c.args.offset c.image-limit.result _ _ _ c.in-Some.ensures.fits (subst IsBytes c.deref.ensures.value c.bytes_fit.ensures) c.write_preamble.ensures
    short c.image-limit.ensures.most (ap (λ (n : ℕ). 2 + n) c.header_len.ensures) c.in-Some.ensures.some in
    ap (create_result p c.args.offset) (sym c.image-limit.ensures.value) ∙ create_fits p c.args.offset c.image-limit.result short ∙ ap (λ (s : CacheState). Ok s) (sym parts.state)

pub returns-clause-offset : goal.returns-clause-offset
returns-clause-offset g c =
    let parts = empty_held (g.N.Name.parts c.args.default.now) c.args.offset c.image-limit.result _ _ _ c.in-Some.ensures.fits (subst IsBytes c.deref.ensures.value c.bytes_fit.ensures) c.write_preamble.ensures
    (omega (arith, c.in-Some.ensures.some, c.in-Some.ensures.within)) c.image-limit.ensures.most (ap (λ (n : ℕ). 2 + n) c.header_len.ensures) c.in-Some.ensures.some in
    ap (λ (s : CacheState). offset_in s.header) parts.state ∙ c.new_header_has_its_offset.ensures
