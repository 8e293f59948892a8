-- The cells of a store that a cursor passes.
use Rattle.krb_walk.proofs.Cited.{◌≡◌, ℕ, ◌+◌, ◌<◌, ◌≤◌, Bool, true, false, List, [], ◌∷◌, ◌++◌, map, Option, Some, None, refl, sym, ap, ◌∙◌, arith, ◌==◌, nat_le, find, filter_map, AllByRecursion, nat_tests, leb-true, leb-false, Cell, Store, Record, standing, end_from, record_with, record_of_some, next_live, live_bytes, stop_of, stop_at, IsSound, Row, row_of, stop_cursor, stop_reply, Gave}
use Rattle.krb_walk.proofs.Stops.{next_from, next_stops, stops_give_records}
use Rattle.krb_walk.specs.declared.stop.Stop.TheVariants.{Live}

-- the places of cells of these widths, the first at a place
abbrev pub spots : ℕ → List ℕ → List ℕ
spots at [] = []
spots at (w ∷ ws) = at ∷ spots (at + w) ws

pub places_spots : (at : ℕ) (cells : List Cell) → map (λ x. x.place) (standing at cells) ≡ spots at (map (λ c. c.width) cells)
places_spots at [] = refl
places_spots at (c ∷ cells) = ap (λ ps. at ∷ ps) (places_spots (at + c.width) cells)

-- the record at p, of cells from a place on
abbrev pub live_from : ℕ → List Cell → ℕ → Option Record
live_from at cells p = record_of_some (find (λ x. x.place == p) (standing at cells))

abbrev pub stop_from : ℕ → List Cell → ℕ → ℕ
stop_from at cells c = stop_cursor (end_from at cells) (next_from at cells c)

abbrev pub rows_of_next : ℕ → Option Record → List Row
rows_of_next n None = []
rows_of_next n (Some r) = record { event = n; stood = r } ∷ []

stop_from-ge : (at c : ℕ) (cells : List Cell) → at ≤ stop_from at cells c
stop_from-ge at c [] = omega arith
stop_from-ge at c (x ∷ cells) = grind (arith, nat_tests, stop_from-ge (at + x.width) c cells)

-- functions that agree from a place on give the same rows there
pub same_from : (f g : ℕ → Option Row) (at : ℕ) (ws : List ℕ) → ((p : ℕ) → at ≤ p → f p ≡ g p) → filter_map f (spots at ws) ≡ filter_map g (spots at ws)
same_from f g at [] same = refl
same_from f g at (w ∷ ws) same = rw (same at (omega arith), same_from f g (at + w) ws (λ p h. same p (omega arith))) refl

-- how a step changes the rows that are due: f before it, g after it
pub record StepsRows (f g : ℕ → Option Row) (n c end : ℕ) (found : ℕ → Option Record) : Type 0 where
  pub forward : c ≤ end
  pub passed : (p : ℕ) → c ≤ p → p < end → f p ≡ row_of n (found p)
  pub behind : (p : ℕ) → p < c → f p ≡ None
  pub ahead : (p : ℕ) → end ≤ p → f p ≡ g p
  pub none : (p : ℕ) → p < end → g p ≡ None

pub find_head : (at w : ℕ) (live : Option (List ℕ)) (cells : List Cell) → live_from at (record { width = w; live = live } ∷ cells) at ≡ record_with (record { place = at; cell = record { width = w; live = live } }) live
find_head at w live cells = let e : (at == at) ≡ true = grind (arith, nat_tests) in rw e refl

pub find_tail : (at w p : ℕ) (live : Option (List ℕ)) (cells : List Cell) → at < p → live_from at (record { width = w; live = live } ∷ cells) p ≡ live_from (at + w) cells p
find_tail at w p live cells lt = let e : (at == p) ≡ false = grind (arith, nat_tests) in rw e refl

abbrev StepGives : (f g : ℕ → Option Row) (n c end at : ℕ) (cells : List Cell) (more : List ℕ) → Type 0
StepGives f g n c end at cells more = filter_map f (spots at (map (λ x. x.width) cells ++ more)) ≡ rows_of_next n (next_from at cells c) ++ filter_map g (spots at (map (λ x. x.width) cells ++ more))

step_cons : (f g : ℕ → Option Row) (n c end at w : ℕ) (live : Option (List ℕ)) (b : Bool) (cells : List Cell) (more : List ℕ) (found : ℕ → Option Record) → (nat_le c at ≡ b) → StepsRows f g n c end found
    → 0 < w → ((p : ℕ) → at ≤ p → found p ≡ live_from at (record { width = w; live = live } ∷ cells) p) → end ≡ stop_from at (record { width = w; live = live } ∷ cells) c
    → (end ≡ stop_from (at + w) cells c → StepGives f g n c end (at + w) cells more) → StepGives f g n c end at (record { width = w; live = live } ∷ cells) more
step_cons f g n c end at w live b cells more found e steps some look is_end ih = search (arith, stop_from-ge, leb-true, find_head, next_stops, same_from, leb-false)

-- a step's row comes before the rows of the rest
pub step_gives : (f g : ℕ → Option Row) (n c end at : ℕ) (cells : List Cell) (more : List ℕ) (found : ℕ → Option Record) → StepsRows f g n c end found → AllByRecursion (λ x. 0 < x.width) cells
    → ((p : ℕ) → at ≤ p → found p ≡ live_from at cells p) → end ≡ stop_from at cells c → StepGives f g n c end at cells more
step_gives f g n c end at [] more found steps sound look is_end = same_from f g at more (λ p h. steps.ahead p (omega arith))
step_gives f g n c end at (x ∷ cells) more found steps sound look is_end =
    step_cons f g n c end at x.width x.live (nat_le c at) cells more found refl steps sound.0 look is_end
    (λ ends. step_gives f g n c end (at + x.width) cells more found steps sound.1 (λ p h. look p (omega arith) ∙ find_tail at x.width p x.live cells (omega (arith, sound.0))) ends)

-- what holds of a stop at a live cell
pub record StopsLive (s : Store) (c p n : ℕ) : Type 0 where
  pub bytes : List ℕ
  pub next : next_live s c ≡ Some (record { place = p; next = n; bytes = bytes })
  pub is_there : live_bytes s p ≡ Some bytes

stops_live_of : (s : Store) (c p n : ℕ) (found : Option Record) → IsSound s → next_live s c ≡ found → Live p n ≡ stop_of s found → StopsLive s c p n
stops_live_of s c p n None sound is e = absurd (search arith)
stops_live_of s c p n (Some r) sound is e =
    let place : r.place ≡ p = cc in
    let after : r.next ≡ n = cc in
    let h = stops_give_records s c r sound is in
    record {
      bytes = r.bytes;
      next = is ∙ ap Some (ap (λ (q : ℕ). record { place = q; next = r.next; bytes = r.bytes }) place ∙ ap (λ (m : ℕ). record { place = p; next = m; bytes = r.bytes }) after);
      is_there = ap (live_bytes s) (sym place) ∙ h.bytes;
    }

pub stops_live : (s : Store) (c p n : ℕ) → IsSound s → Live p n ≡ stop_at s c → StopsLive s c p n
stops_live s c p n sound e = stops_live_of s c p n (next_live s c) sound refl e

-- the reply to a step with that stop
pub gave_reply : (s : Store) (w c p n : ℕ) (items : List ℕ) → StopsLive s c p n → live_bytes s p ≡ Some items → Gave w p n items ≡ stop_reply s w (next_live s c)
gave_reply s w c p n items live here = search arith
