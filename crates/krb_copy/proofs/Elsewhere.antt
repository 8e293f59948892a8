-- A change of one cell leaves the entries of all others.
use Rattle.krb_copy.proofs.Cited.{◌≡◌, ℕ, ◌+◌, ◌<◌, Bool, true, List, [], ◌∷◌, ◌++◌, Option, Some, None, Result, Ok, Err, refl, sym, ap, subst, ◌∙◌, inl, inr, arith, map, ◌==◌, AllByRecursion, list_any, append-nil, some_is, Code, EntryParts, PlacedEntry, placed_entries, KeytabState, entry_at_place, put_result, without, ◌≤◌, option_map, filter_map, find, ne_eqb, eqb-true, or_right, cut_store, entry_at, store_of, store_cell, cut_result, cut_gives, put_gives, removal_cuts, addition_puts, none-some, all_front, ◌>>=◌, Cell, Store, Standing, Record, standing, end_from, record_of, live_bytes}
use Rattle.krb_wire.specs.declared.format.KtFormat.{KtFormat}
use Rattle.krb_walk.specs.Changes.{Puts}
use Rattle.krb_walk.proofs.Stops.{bytes_from}
use Rattle.krb_walk.proofs.Splits.{bytes_ahead, bytes_here}
use Rattle.krb_walk.proofs.Cells.{find_head, find_tail}
use Rattle.krb_keytab.proofs.Cuts.{store_sound}

-- ---- cells

-- cells that agree at a place agree there behind others
behind_same : (at q : ℕ) (before xs ys : List Cell) → bytes_from (end_from at before) xs q ≡ bytes_from (end_from at before) ys q → bytes_from at (before ++ xs) q ≡ bytes_from at (before ++ ys) q
behind_same at q [] xs ys e = e
behind_same at q (c ∷ before) xs ys e = let rest = behind_same (at + c.width) q before xs ys e in grind (arith, rest)

-- ---- one cell becomes another of its width, or is added

puts_elsewhere : (old new : Store) (p q : ℕ) → Puts old new p → (q ≡ p → ⊥) → live_bytes new q ≡ live_bytes old q
puts_elsewhere old new p q puts other = elim puts.how [
  | inl f ↦ search (arith, bytes_from, behind_same, ne_eqb)
  | inr a ↦
      ap (λ (at : ℕ). bytes_from at new.cells q) a.first ∙ ap (λ (cs : List Cell). bytes_from old.first cs q) a.cells
      ∙ behind_same old.first q old.cells (record { width = a.width; live = Some a.bytes } ∷ []) [] (rw (ne_eqb (end_from old.first old.cells) q (λ s. other (sym s ∙ sym a.place))) refl)
      ∙ ap (λ (cs : List Cell). bytes_from old.first cs q) (append-nil old.cells)
]

-- where a record is put there was none
puts_free : (old new : Store) (p : ℕ) → AllByRecursion (λ c. 0 < c.width) old.cells → Puts old new p → live_bytes old p ≡ None
puts_free old new p sound puts = elim puts.how [
  | inl f ↦
      let one = f.cell in
      let hole = record { width = f.width; live = None } ∷ one.after in
      ap (λ (cs : List Cell). bytes_from old.first cs p) one.old_cells ∙ ap (bytes_from old.first (one.before ++ hole)) one.place
      ∙ bytes_here old.first f.width None one.before one.after (all_front (λ c. 0 < c.width) one.before hole (subst (AllByRecursion (λ c. 0 < c.width)) one.old_cells sound))
  | inr a ↦ grind (arith, a.place, append-nil old.cells, bytes_ahead old.first (end_from old.first old.cells) old.cells [] sound)
]

-- ---- a keytab

-- where two stores have the same bytes, the same entry is read
same_read : (k new : KeytabState) (q : ℕ) → new.format ≡ k.format → live_bytes (store_of new) q ≡ live_bytes (store_of k) q → entry_at_place new q ≡ entry_at_place k q
same_read k new q format bytes = grind (arith, format, bytes)

-- a removal leaves the others
pub cut_apart : (k : KeytabState) (p q : ℕ) (given : Result KeytabState Code) → cut_result k p ≡ given → (q ≡ p → ⊥) → entry_at_place (cut_store k given) q ≡ entry_at_place k q
cut_apart k p q (Ok new) cut other =
    let f = (removal_cuts k new p (Ok tt) cut).how in
    same_read k new q (sym (ap (λ (x : KeytabState). x.format) (cut_gives k p new cut).gives)) (search (arith, bytes_from, behind_same, ne_eqb))
cut_apart k p q (Err code) cut other = refl

-- an entry stays while records at other places are removed
pub without_elsewhere : (k : KeytabState) (places : List ℕ) (q : ℕ) (e : EntryParts) → AllByRecursion (λ p. q ≡ p → ⊥) places → entry_at_place k q ≡ Some e → entry_at_place (without k places) q ≡ Some e
without_elsewhere k [] q e others held = held
without_elsewhere k (p ∷ ps) q e others held = without_elsewhere (cut_store k (cut_result k p)) ps q e others.1 (cut_apart k p q (cut_result k p) refl others.0 ∙ held)

-- an addition leaves the others
pub put_apart : (k : KeytabState) (x : EntryParts) (given : ℕ × KeytabState) (q : ℕ) → put_result k x ≡ Ok given → (q ≡ given.0 → ⊥) → entry_at_place given.1 q ≡ entry_at_place k q
put_apart k x given q put other =
    let bytes = puts_elsewhere (store_of k) (store_of given.1) given.0 q (addition_puts k given.1 x (Ok given.0) put) other in
    elim (put_gives k x given put).how [
      | inl h ↦ grind (arith, bytes, h.gives)
      | inr last ↦ grind (arith, bytes, last)
    ]

-- an entry stays when another is added
pub put_elsewhere : (k : KeytabState) (x : EntryParts) (given : ℕ × KeytabState) (q : ℕ) (e : EntryParts) → put_result k x ≡ Ok given → entry_at_place k q ≡ Some e → entry_at_place given.1 q ≡ Some e
put_elsewhere k x given q e put held = put_apart k x given q put (λ s.
    let free = puts_free (store_of k) (store_of given.1) given.0 (store_sound k.contents.cells) (addition_puts k given.1 x (Ok given.0) put) in
    none-some e (sym (ap (λ (o : Option (List ℕ)). o >>= entry_at k.format) free) ∙ ap (entry_at_place k) (sym s) ∙ held)) ∙ held

-- ---- the entries of a keytab, and their places

pub all_mapped : {X : Type 0} (P Q : X → Type 0) (xs : List X) → ((x : X) → P x → Q x) → AllByRecursion P xs → AllByRecursion Q xs
all_mapped P Q [] f a = tt
all_mapped P Q (x ∷ xs) f a = (f x a.0, all_mapped P Q xs f a.1)

-- the entries of cells from a place on
abbrev entries_from : KtFormat → ℕ → List Cell → List PlacedEntry
entries_from f at cells = filter_map (λ (r : Record). option_map (λ (e : EntryParts). (r.place, e)) (entry_at f r.bytes)) (filter_map record_of (standing at cells))

-- an entry is read at its place, at or after another
abbrev IsReadFrom : KtFormat → ℕ → List Cell → PlacedEntry → Type 0
IsReadFrom f at cells y = (at ≤ y.0) × ((bytes_from at cells y.0 >>= entry_at f) ≡ Some y.1)

all_read : (f : KtFormat) (at : ℕ) (cells : List Cell) → AllByRecursion (λ c. 0 < c.width) cells → AllByRecursion (IsReadFrom f at cells) (entries_from f at cells)
all_read f at [] sound = tt
all_read f at (c ∷ cells) sound = search (arith, all_mapped, find_tail, find_head, all_read f (at + c.width) cells)

-- each entry of a keytab is read at its place
pub entries_read : (k : KeytabState) → AllByRecursion (λ y. entry_at_place k y.0 ≡ Some y.1) (placed_entries k)
entries_read k = all_mapped (IsReadFrom k.format 2 (map store_cell k.contents.cells)) _ (placed_entries k) (λ y r. r.1) (all_read k.format 2 (map store_cell k.contents.cells) (store_sound k.contents.cells))

-- ---- an entry that is read is one of the entries

-- the cell at a place, of cells behind one
abbrev find_at : ℕ → ℕ → ℕ → List Cell → Option Standing
find_at at w q cells = find (λ x. x.place == q) (standing (at + w) cells)

any_read : (f : KtFormat) (at q : ℕ) (cells : List Cell) (e : EntryParts) (p : PlacedEntry → Bool) → p (q, e) ≡ true → (bytes_from at cells q >>= entry_at f) ≡ Some e → list_any p (entries_from f at cells) ≡ true
any_read f at q [] e p holds read = absurd cc
any_read f at q (c ∷ cells) e p holds read = search (arith, some_is, eqb-true, or_right, any_read f (at + c.width) q cells e p holds)

-- if an entry is read at a place, one of the entries has what holds of it
pub any_entry : (k : KeytabState) (q : ℕ) (e : EntryParts) (p : PlacedEntry → Bool) → p (q, e) ≡ true → entry_at_place k q ≡ Some e → list_any p (placed_entries k) ≡ true
any_entry k q e p holds read = any_read k.format 2 q (map store_cell k.contents.cells) e p holds read
