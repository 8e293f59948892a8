-- Where cells end, and what a store has there.
use Rattle.krb_keytab.proofs.Cited.{◌≡◌, ℕ, ◌+◌, ◌*◌, ◌<◌, ◌≤◌, List, [], ◌∷◌, ◌++◌, map, length, refl, length-append, arith, w32, flat_map, AllByRecursion, map-append, Order, digits, wide32, bytes_from, Cell, bytes_of, length_field, cell, size, store_cell, live_of, end_place, bytes_here}
use Rattle.krb_walk.specs.Store.{Cell as StoreCell}

pub cell_len : (o : Order) (c : Cell) → length (cell o c) ≡ 4 + size c
cell_len o c = omega (arith, length-append (digits o w32 (length_field c)) (bytes_of c), (wide32 o).len (length_field c))

-- the cells end after their spelling
pub end_place_is : (o : Order) (at : ℕ) (cs : List Cell) → end_place at cs ≡ at + length (flat_map (cell o) cs)
end_place_is o at [] = omega arith
end_place_is o at (c ∷ cs) = search (arith, length-append, cell_len, end_place_is o (at + (4 + size c)) cs)

-- the cells of a second list end where those of both do
pub end_place-append : (at : ℕ) (front back : List Cell) → end_place at (front ++ back) ≡ end_place (end_place at front) back
end_place-append at [] back = refl
end_place-append at (c ∷ front) back = end_place-append (at + (4 + size c)) front back

-- each cell takes four places or more
pub places_for : (cs : List Cell) (at : ℕ) → at + 4 * length cs ≤ end_place at cs
places_for [] at = omega arith
places_for (c ∷ cs) at = let h = places_for cs (at + (4 + size c)) in omega (arith, h)

-- each takes up places of a store
pub store_sound : (cs : List Cell) → AllByRecursion (λ (c : StoreCell). 0 < c.width) (map store_cell cs)
store_sound [] = tt
store_sound (c ∷ cs) = (omega arith, store_sound cs)

-- where the cells before a cell end, the store has the bytes of that cell
pub live_there : (front back : List Cell) (c : Cell) (p : ℕ) → p ≡ end_place 2 front → bytes_from 2 (map store_cell (front ++ (c ∷ back))) p ≡ live_of c
live_there front back c p place = search (arith, bytes_from, map-append, bytes_here, store_sound)
