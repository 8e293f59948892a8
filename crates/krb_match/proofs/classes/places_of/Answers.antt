use Rattle.krb_match.proofs.ForAnswers.{◌≡◌, ◌∙◌, sym, ap, subst, List, [], ◌∷◌, ◌++◌, map, append_assoc, append-nil, vec_items, PlacedEntry, placed_entries, ArePlaced, entry_key, none_placed, keys_next}
use Rattle.krb_match.proofs.classes.places_of.Goals as goal

pub entries-init : goal.entries-init
entries-init g c =
    let all = c.into_iter-place-iterator.ensures.into_iter_gives ∙ c.entries-place-items.ensures in
    record { before = []; parts = all; keys = c.requires ∙ ap (map entry_key) (sym all); placed = none_placed c.new-places.result c.new-places.ensures.empty }

pub entries-preserved : goal.entries-preserved
entries-preserved g c =
    let f = c.entries.invariant in
    let x : PlacedEntry = (c.in-Some.place, c.in-Some.entry) in
    let parts : f.before ++ x ∷ c.next.new.self ≡ placed_entries c.args.keytab.now.state = ap (λ (l : List PlacedEntry). f.before ++ l) (sym c.in-Some.ensures.steps) ∙ f.parts in
    let next = keys_next vec_items c.entries.rest.now c.key-item.result x c.next.new.self (f.keys ∙ ap (map entry_key) c.in-Some.ensures.steps) c.key-item.is in
    let key = c.deref.ensures.value ∙ next.0 in
    record { before = f.before ++ x ∷ []; parts = append_assoc f.before (x ∷ []) c.next.new.self ∙ parts; keys = next.1; placed = c.in_ok-note.ensures f.before key f.placed }

pub returns : goal.returns
returns g c =
    let f = c.entries.invariant in
    let all = sym (append-nil f.before) ∙ ap (λ (l : List PlacedEntry). f.before ++ l) (sym c.in-None.ensures.steps.0) ∙ f.parts in
    subst (λ (xs : List PlacedEntry). ArePlaced xs c.entries.places) all f.placed
