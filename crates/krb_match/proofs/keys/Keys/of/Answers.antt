use Rattle.krb_match.proofs.ForAnswers.{◌≡◌, ◌∙◌, sym, ap, subst, List, [], ◌∷◌, ◌++◌, append_assoc, append-nil, PlacedEntry, placed_entries, AreNoted, has_name, none_noted, among_is, named_here, places_rise}
use Rattle.krb_match.proofs.keys.Keys.of.Goals as goal

pub entries-init : goal.entries-init
entries-init g c = record {
  before = [];
  parts = c.into_iter-place-iterator.ensures.into_iter_gives ∙ c.entries-place-items.ensures;
  names = among_is _ c.in_ok-of.field-0 (rw c.requires at c.in_ok-of.ensures);
  noted = none_noted c.in_ok-of.field-0 c.new.result c.new.ensures.empty;
}

pub entries-preserved : goal.entries-preserved
entries-preserved g c =
    let f = c.entries.invariant in
    let x : PlacedEntry = (c.in-Some.place, c.in-Some.entry) in
    let parts : f.before ++ x ∷ c.next.new.self ≡ placed_entries c.args.keytab.now.state = ap (λ (l : List PlacedEntry). f.before ++ l) (sym c.in-Some.ensures.steps) ∙ f.parts in
    record {
      before = f.before ++ x ∷ [];
      parts = append_assoc f.before (x ∷ []) c.next.new.self ∙ parts;
      names = rw c.in_ok-consider.ensures.names f.names;
      noted = c.in_ok-consider.ensures.noted f.before (f.names x.1.principal ∙ ap (has_name x.1.principal) (sym parts) ∙ named_here f.before c.next.new.self x) f.noted;
    }

pub returns : goal.returns
returns g c =
    let f = c.entries.invariant in
    let all = sym (append-nil f.before) ∙ ap (λ (l : List PlacedEntry). f.before ++ l) (sym c.in-None.ensures.steps.0) ∙ f.parts in
    record { names = f.names; noted = subst (λ (xs : List PlacedEntry). AreNoted c.entries.keys.names xs c.entries.keys.groups) all f.noted; rises = places_rise c.args.keytab.now.state }
