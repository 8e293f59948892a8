-- Marks of the names of a set.
use Rattle.krb_names.proofs.Cited.{◌≡◌, ◌∙◌, sym, ap, refl, arith, ℕ, ◌<◌, Bool, true, false, List, [], ◌∷◌, ◌++◌, length, take, map, get_or, ◌||◌, ◌&&◌, bytes_eq, is_among, is_place, Option, Some, None, replicate, ◌-◌, eqb-true, ext_get_or, get_or-map, get_or-set_other, get_or-set_same, get_or_default, length-map, length-set, Any-from_list_any, bytes_eq-Decides, is_some, has_mark, with_mark, HaveSameNames, IsAlone}
use Rattle.std.proofs.Math.Seq.{take-nil}

module _ (marked : List ℕ → Bool) (names : List (List ℕ)) (name : List ℕ) where
  abbrev then : List ℕ → Bool
  then other = marked other || bytes_eq name other

  each : (at : Option ℕ) (n : ℕ) → n < length names → bytes_eq name (get_or names n []) ≡ is_place at n → get_or (with_mark (map marked names) at) n false ≡ get_or (map then names) n false
  each None n lt e =
      let old = get_or-map marked names n [] false lt in
      let new = get_or-map then names n [] false lt in
      grind arith
  each (Some i) n lt e =
      let old = get_or-map marked names n [] false lt in
      let new = get_or-map then names n [] false lt in
      let long = length-map names marked in
      grind (arith, get_or-set_same, get_or-set_other)

  long : (at : Option ℕ) → length (with_mark (map marked names) at) ≡ length names
  long None = length-map names marked
  long (Some i) = length-set (map marked names) i true ∙ length-map names marked

  -- a name is marked at its place
  pub marked_at : (at : Option ℕ) → IsAlone name names at → with_mark (map marked names) at ≡ map then names
  marked_at at alone =
      ext_get_or false (with_mark (map marked names) at) (map then names) (long at ∙ sym (length-map names then))
      (λ n lt. let below : n < length names = omega (arith, lt, long at) in each at n below (alone n below))

  is_marked : (i : ℕ) → IsAlone name names (Some i) → is_among names name ≡ true → get_or (map marked names) i false ≡ marked name
  is_marked i alone among =
      let any = Any-from_list_any (bytes_eq name) names among in
      let there : bytes_eq name (get_or names any.0 []) ≡ true = ap (bytes_eq name) (get_or_default names any.0 [] any.1 any.2 ∙ any.3) ∙ any.4 in
      let same : i ≡ any.0 = eqb-true i any.0 (sym (alone any.0 any.2) ∙ there) in
      ap (λ (j : ℕ). get_or (map marked names) j false) same ∙ get_or-map marked names any.0 [] false any.2
      ∙ ap marked (sym ((bytes_eq-Decides name (get_or names any.0 [])).0 there))

  -- a name that is there is marked iff the mark at its place is set
  pub has_at : (others : List (List ℕ)) (at : Option ℕ) → HaveSameNames others names → IsAlone name names at → is_some at ≡ is_among names name → has_mark (map marked names) at ≡ (is_among others name && marked name)
  has_at others None same alone found = let is = same name in grind arith
  has_at others (Some i) same alone found =
      let mark = is_marked i alone (sym found) in
      let is = same name in
      grind arith

all_false : (names : List (List ℕ)) → replicate (length names) false ≡ map (λ name. false) names
all_false [] = refl
all_false (name ∷ names) = ap (λ (bs : List Bool). false ∷ bs) (all_false names)

-- marks that were none, and were made as many as there are names
pub none_marked : (names : List (List ℕ)) (old new : List Bool) (len have : ℕ) → new ≡ take len old ++ replicate (len - have) false → old ≡ [] → have ≡ 0 → len ≡ length names → new ≡ map (λ name. false) names
none_marked names old new len have is empty none all =
    let each = all_false names in
    grind (arith, take-nil)
