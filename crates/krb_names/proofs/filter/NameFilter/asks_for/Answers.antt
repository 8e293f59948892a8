use Rattle.krb_names.proofs.Cited.{◌∙◌, sym, ap, map}
use Rattle.krb_wire.specs.Reading.{principal_parts}
use Rattle.krb_names.specs.Asked.{AskedParts}
use Rattle.krb_names.proofs.AskedLemmas.{asked_by_pattern, fits_one}
use Rattle.krb_names.proofs.filter.NameFilter.asks_for.Goals as goal

pub returns-clause-asks : goal.returns-clause-asks
returns-clause-asks g c =
    let p = g.N.Name.parts c.args.name.now in
    let plain = c.args.only_plain_realms in
    c.fits_one.ensures ∙ (λ i. fits_one plain p (map principal_parts (c.deref.ensures.value i)))
    ∙ ap (λ (a : AskedParts). fits_one plain p a.patterns) (c.asked.view_is ∙ c.self.view_is ∙ c.in_ok-has_text.ensures.kept)
    ∙ asked_by_pattern plain c.args.self.now p (sym c.in_ok-has_text.ensures.has ∙ c.if-branch.false)
