use Rattle.krb_ccache.proofs.Cited.{◌+◌, ◌≤◌, ℕ, length, Ok, sym, ap, ◌∙◌, arith, IsBytes, V4, credential, CacheState, image_of, with_last, InMemory, subst}
use Rattle.krb_ccache.proofs.ImageLemmas.{image_parts}
use Rattle.krb_ccache.proofs.LastCredential.{append_full, append_fits, appendable_held}
use Rattle.krb_ccache.proofs.ccache.Ccache.append.Goals as goal

pub returns-in_default-clause-gives : goal.returns-in_default-clause-gives
returns-in_default-clause-gives g c = search (arith, appendable_held, append_full)

pub returns-clause-gives : goal.returns-clause-gives
returns-clause-gives g c =
    let i = c.self.inside in
    let x = c.args.cred.now in
    let a = appendable_held c.deref.ensures.value c.bytes_fit.ensures c.self.invariant.0 (ap (λ (m : InMemory). m.state) c.self.view_is) c.requires.whole c.requires.version in
    let short : i.layout.places.end + length (credential V4 x) ≤ i.layout.limit = omega (arith, i.image.ok.0, c.in-Some.ensures.some, c.in-Some.ensures.within, c.self.invariant.0.within, c.len.ensures, a.1) in
    append_fits _ _ x a.0 short
    ∙ ap (λ (n : ℕ). Ok (n, with_last c.args.self.now.state x)) (sym c.end-place.ensures)
    ∙ ap (λ (s : CacheState). Ok (c.end-place.result, s)) (ap (λ (m : InMemory). with_last m.state x) (sym c.self.view_is) ∙ sym c.in_ok-self-inside.ensures.ok.state)

pub returns-in_err-self-inside-clause-memory : goal.returns-in_err-self-inside-clause-memory
returns-in_err-self-inside-clause-memory g c = λ refused. search (arith, appendable_held, append_fits)

pub returns-in_err-self-inside-clause-room : goal.returns-in_err-self-inside-clause-room
returns-in_err-self-inside-clause-room g c = λ room.
    let spells = ap length ((image_parts _ _ (subst IsBytes c.deref.ensures.value c.bytes_fit.ensures) c.self.invariant.0).spells ∙ ap (λ (m : InMemory). image_of m.state) c.self.view_is) in
    let known = ap (λ (m : InMemory). m.room) c.self.view_is in
    absurd (omega (arith, room, spells, known, c.self.inside.image.ok.0, c.in-Some.ensures.some, c.in_err-self-inside.ensures.full))
