-- The places of live cells, and how a change affects them.
use Rattle.krb_walk.proofs.Cited.{◌≡◌, ℕ, ◌+◌, ◌<◌, ◌≤◌, true, false, List, [], ◌∷◌, ◌++◌, length, map, Option, Some, None, inl, inr, refl, sym, ap, ◌∙◌, subst, arith, nat_lt, filter, AllByRecursion, append-nil, nat_tests, Cell, Store, end_from, IsSound, Puts, Cuts, live_places, rank, all_front, all_back}
use Rattle.krb_walk.proofs.Stops.{records_of, end_from-ge}
use Rattle.krb_walk.proofs.Places.{sound_kept, puts-extends}

-- the places of the live cells among cells from a place on
abbrev pub lives : ℕ → List Cell → List ℕ
lives at cells = map (λ r. r.place) (records_of at cells)

lives_append : (at : ℕ) (xs ys : List Cell) → lives at (xs ++ ys) ≡ lives at xs ++ lives (end_from at xs) ys
lives_append at [] ys = refl
lives_append at (x ∷ xs) ys = search (arith, lives_append (at + x.width) xs ys)

all_weaken : (P Q : ℕ → Type 0) (ps : List ℕ) → ((p : ℕ) → P p → Q p) → AllByRecursion P ps → AllByRecursion Q ps
all_weaken P Q [] f h = tt
all_weaken P Q (p ∷ ps) f h = (f p h.0, all_weaken P Q ps f h.1)

pub lives_ge : (at : ℕ) (xs : List Cell) → AllByRecursion (λ q. at ≤ q) (lives at xs)
lives_ge at [] = tt
lives_ge at (x ∷ xs) = search (arith, all_weaken, lives_ge (at + x.width) xs)

lives_lt_cons : (at w end : ℕ) (live : Option (List ℕ)) (xs : List Cell) → at < end → AllByRecursion (λ q. q < end) (lives (at + w) xs) → AllByRecursion (λ q. q < end) (lives at (record { width = w; live = live } ∷ xs))
lives_lt_cons at w end live xs lt ih = search arith

pub lives_lt : (at : ℕ) (xs : List Cell) → AllByRecursion (λ c. 0 < c.width) xs → AllByRecursion (λ q. q < end_from at xs) (lives at xs)
lives_lt at [] sound = tt
lives_lt at (x ∷ xs) sound = lives_lt_cons at x.width _ x.live xs (omega (arith, sound.0, end_from-ge (at + x.width) xs)) (lives_lt (at + x.width) xs sound.1)

below_all : (p : ℕ) (ps qs : List ℕ) → AllByRecursion (λ q. q < p) ps → AllByRecursion (λ q. p ≤ q) qs → filter (λ q. nat_lt q p) (ps ++ qs) ≡ ps
below_all p [] [] h k = refl
below_all p [] (q ∷ qs) h k = let e : nat_lt q p ≡ false = grind (arith, nat_tests, k.0) in rw e (below_all p [] qs tt k.1)
below_all p (x ∷ ps) qs h k = let e : nat_lt x p ≡ true = grind (arith, nat_tests, h.0) in rw e (ap (λ (l : List ℕ). x ∷ l) (below_all p ps qs h.1 k))

-- one more live cell in the second store, at p
pub record Inserts (lo hi : Store) (p : ℕ) : Type 0 where
  pub front : List ℕ
  pub back : List ℕ
  pub lo_is : live_places lo ≡ front ++ back
  pub hi_is : live_places hi ≡ front ++ p ∷ back
  pub rank_is : rank hi p ≡ length front
  pub less : AllByRecursion (λ q. q < p) front
  pub more : AllByRecursion (λ q. p < q) back

inserts_of : (lo hi : Store) (first p : ℕ) (before ltail htail : List Cell) (back : List ℕ) → lo.first ≡ first → hi.first ≡ first → lo.cells ≡ before ++ ltail → hi.cells ≡ before ++ htail → p ≡ end_from first before
    → lives p ltail ≡ back → lives p htail ≡ p ∷ back → AllByRecursion (λ c. 0 < c.width) before → AllByRecursion (λ q. p < q) back → Inserts lo hi p
inserts_of lo hi first p before ltail htail back lo_first hi_first lo_cells hi_cells place lo_back hi_back sound more =
    let front = lives first before in
    let less : AllByRecursion (λ q. q < p) front = subst (λ (e : ℕ). AllByRecursion (λ q. q < e) front) (sym place) (lives_lt first before sound) in
    let hi_is : live_places hi ≡ front ++ p ∷ back = ap (λ (f : ℕ). lives f hi.cells) hi_first ∙ ap (lives first) hi_cells ∙ lives_append first before htail ∙ ap (λ (e : ℕ). front ++ lives e htail) (sym place) ∙ ap (λ (l : List ℕ). front ++ l) hi_back in
    record {
      front = front;
      back = back;
      lo_is = ap (λ (f : ℕ). lives f lo.cells) lo_first ∙ ap (lives first) lo_cells ∙ lives_append first before ltail ∙ ap (λ (e : ℕ). front ++ lives e ltail) (sym place) ∙ ap (λ (l : List ℕ). front ++ l) lo_back;
      hi_is = hi_is;
      rank_is = ap (λ (l : List ℕ). length (filter (λ q. nat_lt q p) l)) hi_is ∙ ap length (below_all p front (p ∷ back) less (omega arith, all_weaken (λ q. p < q) (λ q. p ≤ q) back (λ q h. omega arith) more));
      less = less;
      more = more;
    }

-- one cell that is free in the first store and live in the second
cell_inserts : (lo hi : Store) (first p w : ℕ) (bytes : List ℕ) (before rest : List Cell) → lo.first ≡ first → hi.first ≡ first → p ≡ end_from first before
    → lo.cells ≡ before ++ record { width = w; live = None } ∷ rest → hi.cells ≡ before ++ record { width = w; live = Some bytes } ∷ rest → IsSound hi → Inserts lo hi p
cell_inserts lo hi first p w bytes before rest lo_first hi_first place lo_cells hi_cells sound =
    let all = subst (AllByRecursion (λ c. 0 < c.width)) hi_cells sound in
    let some : 0 < w = (all_back (λ (c : Cell). 0 < c.width) before (record { width = w; live = Some bytes } ∷ rest) all).0 in
    inserts_of lo hi first p before (record { width = w; live = None } ∷ rest) (record { width = w; live = Some bytes } ∷ rest) (lives (p + w) rest) lo_first hi_first lo_cells hi_cells place refl refl
    (all_front (λ (c : Cell). 0 < c.width) before (record { width = w; live = Some bytes } ∷ rest) all) (all_weaken (λ q. p + w ≤ q) (λ q. p < q) _ (λ q h. omega (arith, some)) (lives_ge (p + w) rest))

pub puts_insert : (old new : Store) (p : ℕ) → IsSound old → Puts old new p → Inserts old new p
puts_insert old new p sound puts =
    let sound_new = sound_kept old new (puts-extends old new p puts) sound in
    elim puts.how [
      | inl f ↦ cell_inserts old new old.first p f.width f.bytes f.cell.before f.cell.after refl f.cell.first f.cell.place f.cell.old_cells f.cell.new_cells sound_new
      | inr a ↦ inserts_of old new old.first p old.cells [] (record { width = a.width; live = Some a.bytes } ∷ []) [] refl a.first (sym (append-nil old.cells)) a.cells a.place refl refl sound tt
    ]

pub cuts_insert : (old new : Store) (p : ℕ) → IsSound old → Cuts old new p → Inserts new old p
cuts_insert old new p sound cuts = search (arith, cell_inserts)
