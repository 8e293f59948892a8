-- Where a place goes, computed cell by cell, is where a rewrite carries it.
use Rattle.krb_cells.proofs.Cited.{◌≡◌, ℕ, ◌+◌, ◌^◌, ◌<◌, ◌≤◌, Bool, true, false, cond, List, [], ◌∷◌, length, Option, Some, None, inl, inr, refl, sym, ap, ◌∙◌, arith, nat_le, is_some, AllByRecursion, nat_tests, Cell, Store, end_from, end_of, IsPlace, whole, new_width, new_after, new_place, EncodesAt, AreGiven, given_at, map, take-append-drop, wide32, number_again}
use Rattle.std.proofs.lemmas.Bool.{cases_lt}
use Rattle.krb_walk.specs.Ranks.{nth_or, carry, Rewrites}
use Rattle.krb_walk.proofs.Stops.{end_from-ge}
use Rattle.krb_walk.proofs.Lives.{lives}
use Rattle.krb_walk.proofs.Places.{place_in}
use Rattle.krb_walk.proofs.Carries.{lives_rise, below, below_none, below_some}
use Rattle.krb_cells.proofs.Given.{end_after}

-- where a place goes, by the ranks of live cells
abbrev by_rank : ℕ → List Cell → ℕ → List Cell → ℕ → ℕ
by_rank at cs to ds p = nth_or (end_from to ds) (lives to ds) (below p (lives at cs))

abbrev AreLive : List Cell → Type 0
AreLive ds = AllByRecursion (λ (d : Cell). is_some d.live ≡ true) ds

abbrev AreSound : List Cell → Type 0
AreSound cs = AllByRecursion (λ (c : Cell). 0 < c.width) cs

first_by : (to w : ℕ) (live : Option (List ℕ)) (ds : List Cell) → is_some live ≡ true → nth_or (end_from (to + w) ds) (lives to (record { width = w; live = live } ∷ ds)) 0 ≡ to
first_by to w None ds some = cc
first_by to w (Some bytes) ds some = refl

first_of : (to : ℕ) (ds : List Cell) → AreLive ds → nth_or (end_from to ds) (lives to ds) 0 ≡ to
first_of to [] live = refl
first_of to (d ∷ ds) live = first_by to d.width d.live ds live.0

at_or_after : (cs ds : List Cell) (at to p : ℕ) → AreSound cs → AreLive ds → p ≤ at → by_rank at cs to ds p ≡ to
at_or_after cs ds at to p sound live le =
    let none : below p (lives at cs) ≡ 0 = below_none p at (end_from at cs) (lives at cs) le (lives_rise at cs sound) in
    ap (nth_or (end_from to ds) (lives to ds)) none ∙ first_of to ds live

goes_by : (cs ds : List Cell) (c : Cell) (at to p n : ℕ) → (p ≤ at → n ≡ to) → (at < p → n ≡ new_place (at + c.width) cs (to + new_width (is_some c.live) ds) (new_after (is_some c.live) ds) p) → new_place at (c ∷ cs) to ds p ≡ n
goes_by cs ds c at to p n here later = search (arith, cases_lt)

-- where a place goes among these cells is given by rank
abbrev AreEncoded : ℕ → List Cell → ℕ → Type 0
AreEncoded at cs p = (to : ℕ) (ds : List Cell) → AreLive ds → length (lives to ds) ≡ length (lives at cs) → new_place at cs to ds p ≡ by_rank at cs to ds p

after_live : (cs ds : List Cell) (at w to v p : ℕ) (bytes : List ℕ) (live : Option (List ℕ)) → at < p → is_some live ≡ true → AreLive ds
    → length (lives to (record { width = v; live = live } ∷ ds)) ≡ length (lives at (record { width = w; live = Some bytes } ∷ cs)) → AreEncoded (at + w) cs p
    → by_rank at (record { width = w; live = Some bytes } ∷ cs) to (record { width = v; live = live } ∷ ds) p ≡ new_place (at + w) cs (to + v) ds p
after_live cs ds at w to v p bytes None lt some lives_on many encoded = cc
after_live cs ds at w to v p bytes (Some new) lt some lives_on many encoded = search (arith, lives, below_some)

after_cell : (cs ds : List Cell) (at w to p : ℕ) (live : Option (List ℕ)) → at < p → AreLive ds → length (lives to ds) ≡ length (lives at (record { width = w; live = live } ∷ cs)) → AreEncoded (at + w) cs p
    → by_rank at (record { width = w; live = live } ∷ cs) to ds p ≡ new_place (at + w) cs (to + new_width (is_some live) ds) (new_after (is_some live) ds) p
after_cell cs ds at w to p None lt lives_on many encoded = let same : to ≡ to + 0 = omega arith in sym (encoded to ds lives_on many) ∙ ap (λ (n : ℕ). new_place (at + w) cs n ds p) same
after_cell cs [] at w to p (Some bytes) lt lives_on many encoded = cc
after_cell cs (d ∷ ds) at w to p (Some bytes) lt lives_on many encoded = after_live cs ds at w to d.width p bytes d.live lt lives_on.0 lives_on.1 many encoded

goes_to : (cs : List Cell) (at p : ℕ) → AreSound cs → AreEncoded at cs p
goes_to [] at p sound to ds live many = sym (first_of to ds live)
goes_to (c ∷ cs) at p sound to ds live many = search (arith, goes_by, at_or_after, after_cell, goes_to cs (at + c.width) p sound.1)

carry_is : (cs : List Cell) (new : Store) (first p : ℕ) → AreSound cs → Rewrites (whole first cs) new → new_place first cs new.first new.cells p ≡ carry (whole first cs) new p
carry_is cs new first p sound r = goes_to cs first p sound new.first new.cells r.all_live r.as_many

one_of : (b : Bool) (m n end : ℕ) → m ≤ end → n ≤ end → cond b m n ≤ end
one_of true m n end x y = x
one_of false m n end x y = y

-- a place goes no further than the new end
goes_within : (cs ds : List Cell) (at to p : ℕ) → new_place at cs to ds p ≤ end_from to ds
goes_within [] ds at to p = end_from-ge to ds
goes_within (c ∷ cs) ds at to p = search (arith, one_of, end_from-ge, end_after, goes_within cs (new_after (is_some c.live) ds) (at + c.width) (to + new_width (is_some c.live) ds) p)

-- ---- cursors

-- the four bytes at a place are read
pub reads_place : (image : List ℕ) (p n last end : ℕ) → EncodesAt image p n → n < 2 ^ 32 → p < end → given_at image end last p ≡ n
reads_place image p n last end e small lt = grind (arith, nat_tests, wide32, take-append-drop, number_again)

-- a place goes where a rewrite carries it
pub goes_given : (image : List ℕ) (cs : List Cell) (new : Store) (first end last p : ℕ) → AreGiven image first cs new.first new.cells → end ≡ end_from first cs → last ≡ new_place first cs new.first new.cells end → end_of new ≤ 2 ^ 30
    → AreSound cs → Rewrites (whole first cs) new → IsPlace (whole first cs) p → given_at image end last p ≡ carry (whole first cs) new p
goes_given image cs new first end last p given is is_last small sound rewrites here =
    let carries = carry_is cs new first p sound rewrites in
    elim (cases_lt p end) [
      | inl lt ↦ reads_place image p (new_place first cs new.first new.cells p) last end (given p here (omega (arith, lt, is))) (omega (arith, goes_within cs new.cells first new.first p, small)) lt ∙ carries
      | inr ge ↦
          let same : p ≡ end = omega (arith, ge, is, place_in first cs p here) in
          let no : nat_le end p ≡ true = grind (arith, nat_tests) in
          rw no (is_last ∙ ap (new_place first cs new.first new.cells) (sym same) ∙ carries)
    ]

-- so do all cursors
pub all_go : (image : List ℕ) (cs : List Cell) (new : Store) (first end last : ℕ) (cursors : List ℕ) → AreGiven image first cs new.first new.cells → end ≡ end_from first cs → last ≡ new_place first cs new.first new.cells end → end_of new ≤ 2 ^ 30
    → AreSound cs → Rewrites (whole first cs) new → AllByRecursion (IsPlace (whole first cs)) cursors → map (given_at image end last) cursors ≡ map (carry (whole first cs) new) cursors
all_go image cs new first end last [] given is is_last small sound rewrites h = refl
all_go image cs new first end last (p ∷ ps) given is is_last small sound rewrites h =
    search (arith, goes_given, all_go image cs new first end last ps given is is_last small sound rewrites h.1)
