use Rattle.krb_audit.proofs.ForAnswers.{◌≡◌, ◌∷◌, sym, subst, ap, ◌∙◌, arith, length, some_is, EntryParts, PlacedEntry, AreNumbered, Names, numbered_next}
use Rattle.krb_text.specs.Etype.{is_weak}
use Rattle.krb_names.specs.Numbers.{GetsNumber}
use Rattle.krb_audit.proofs.rows.Names.consider.Goals as goal

pub returns : goal.returns
returns g c = λ all rest x read known.
    let f = c.args.format in
    let names = c.args.self.now in
    let same : c.in-Some.entry ≡ x.1 = some_is c.in-Some.entry x.1 (sym c.in-Some.ensures.entry ∙ read) in
    let next : PlacedEntry = (x.0, c.in-Some.entry) in
    let old = subst (λ (e : EntryParts). AreNumbered f all ((x.0, e) ∷ rest) names) (sym same) known in
    let new : Names g.row.A.Denot = record { numbers = c.number_of.new.numbers; rows = c.push.new.self } in
    let count : c.in-Ok.next ≡ length names.rows.items = let value = c.in-Ok.ensures in let len = c.len.ensures in let ok = names.rows.ok.0 in omega (arith, value, len, ok) in
    numbered_next f all rest next names new (c.hash_of-hash.result, c.in-Some.name) (record { first = c.in_ok-first.first; stamp = c.of-stamp.result; is_weak = c.is_weak-is_weak.result }) old
    (record { fits = c.in-Some.ensures.fits; hash = c.hash_of-hash.ensures; bytes = c.in-Some.ensures.name })
    (subst (λ n. GetsNumber names.numbers c.number_of.new.numbers (c.hash_of-hash.result, c.in-Some.name) n c.in_ok-first.first) count c.in_ok-first.ensures) c.of-stamp.ensures (c.is_weak-is_weak.ensures ∙ ap is_weak c.enctype.ensures) c.in_ok-push.ensures.items
