use Rattle.krb_copy.proofs.Cited.{[], sym, subst, name_text, name_texts, AreTexts, PlacedEntry, map-append}
use Rattle.krb_copy.proofs.texts.Texts.of_both.Goals as goal

pub returns : goal.returns
returns g c =
    let ours = c.args.ours.now in
    let none : AreTexts [] c.in_ok-with_capacity.field-0.items c.in_ok-with_capacity-2.field-0.items = record { bytes_are = c.in_ok-with_capacity.ensures.items; lens_are = c.in_ok-with_capacity-2.ensures.items } in
    subst (λ ts. AreTexts ts c.push_names-2.new.self.bytes.items c.push_names-2.new.self.lens.items) (sym (map-append (λ (x : PlacedEntry). name_text x.1.principal) ours c.args.others.now))
    (c.in_ok-push_names-2.ensures (name_texts ours) (c.in_ok-push_names.ensures [] none))
