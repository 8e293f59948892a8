use Rattle.krb_ccache.specs.Credential.{CredParts}
use Rattle.krb_audit.specs.Tickets.{is_service}
use Rattle.krb_names.specs.Asked.{AskedParts, asks_for_any}
use Rattle.krb_match.proofs.Cited.{◌≡◌, ◌∙◌, sym, ap, refl, false, List, Parts, PlacedEntry, has_name, name_of, is_asked, IfOk-weaker, not, not-false}
use Rattle.krb_match.proofs.looking.Judge.asks_for.Goals as goal

-- if any name is asked for and it is no service, the entries decide
no_service : (asked : AskedParts) (xs : List PlacedEntry) (c : CredParts) → not (asks_for_any asked) ≡ false → is_service (name_of c) ≡ false → is_asked asked xs c ≡ has_name (name_of c) xs
no_service asked xs c any other = rw (not-false (asks_for_any asked) any, other) refl

pub returns-clause-asked : goal.returns-clause-asked
returns-clause-asked g c = λ asked wanted xs old name key.
    let other = ap is_service (sym name) ∙ sym c.is_service.ensures ∙ c.if-is_service.false in
    let same = no_service asked xs c.args.ticket.now (sym old.asks_is ∙ c.if-self.false) other in
    IfOk-weaker c.has.result _ _ (λ b is. is ∙ ap (λ (p : Parts). has_name p xs) name ∙ sym same) (c.has.ensures.has asked wanted xs (g.N.Name.parts c.args.name.now) old key)
