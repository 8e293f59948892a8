use Rattle.std.proofs.lemmas.Option.{slice_get-map, slice_get_past, slice_get_read}
use Rattle.krb_match.proofs.Cited.{◌≡◌, arith, ◌∙◌, ap, refl, ℕ, List, [], length, drop, map, Option, Some, None, option_map, option_map_or, vec_items, entry_key, PlacedEntry, placed_entries, KeytabState, entry_text, name_text, slice_get}
use Rattle.krb_match.proofs.classes.Classes.entry_text.Goals as goal

text_is : {V : Type 0} (f : V → List ℕ) (names : List V) (xs : List PlacedEntry) (n : ℕ) (name : Option V) → map f names ≡ map entry_key xs → slice_get names n ≡ name → option_map_or (drop 1) (option_map f name) [] ≡ option_map_or (λ x. name_text x.1.principal) (slice_get xs n) []
text_is f names xs n name keys at = grind (arith, slice_get-map f names n, slice_get-map entry_key xs n, keys, at)

pub returns-in-Some : goal.returns-in-Some
returns-in-Some g c =
    let m = c.self.inside in
    let within = c.in-Some.ensures.lookup in
    c.text_of.ensures ∙ ap (drop 1) c.deref.ensures.value ∙ text_is vec_items m.keys.now (placed_entries m.keytab.now.state) c.args.number (Some c.in-Some.key.now) c.self.invariant.0 (slice_get_read m.keys.now (length m.keys.now) c.args.number c.in-Some.key.now refl within.3.0 within.1) ∙ ap (λ (k : KeytabState). entry_text k c.args.number) c.self.view_is

pub returns-in-None : goal.returns-in-None
returns-in-None g c =
    let m = c.self.inside in
    let past = c.in-None.ensures.lookup in
    text_is vec_items m.keys.now (placed_entries m.keytab.now.state) c.args.number None c.self.invariant.0 (slice_get_past m.keys.now c.args.number past.3) ∙ ap (λ (k : KeytabState). entry_text k c.args.number) c.self.view_is
