-- What words spell, one after the other.
use Rattle.krb_driver.proofs.Cited.{arith, ◌≡◌, ℕ, ◌+◌, ◌<◌, List, [], ◌∷◌, ◌++◌, length, map, take, drop, get_or, Bor, None, Some, ◌⊎◌, Result, Ok, Err, append-nil, refl, sym, ap, ◌∙◌, drop_more, map_push, take_more, flat_map, IfOk, IsOk, IsOkAnd, Vec, option_map, result_err, MistakeParts, ◌>>=◌, SpellsInMemory, each}
use Rattle.std.proofs.lemmas.List.Concat.{flat_map-append}
use Rattle.krb_wire.specs.declared.memory.NoMemory.{NoMemory}
use Rattle.krb_wire.specs.declared.name_fault.NameFault.{NameFault}
use Rattle.krb_wire.specs.declared.name_fault.NameFault.TheVariants as fault
use Rattle.krb_driver.specs.Loading.{result_map, result_map_err}

module _ {X : Type 0} where
  -- what some words and others spell
  each-append : (f : List ℕ → Result X MistakeParts) (ws others : List (List ℕ)) → each f (ws ++ others) ≡ (each f ws >>= (λ xs. each f others >>= (λ ys. Ok (xs ++ ys))))
  each-append f [] others = grind arith
  each-append f (w ∷ ws) others = grind (arith, each-append f ws others)

  -- what some words and another one spell
  each_push : (f : List ℕ → Result X MistakeParts) (ws : List (List ℕ)) (w : List ℕ) (vs : List X) (v : X) → each f ws ≡ Ok vs → f w ≡ Ok v → each f (ws ++ w ∷ []) ≡ Ok (vs ++ v ∷ [])
  each_push f ws w vs v are is = each-append f ws (w ∷ []) ∙ rw (are, is) refl

abbrev texts : List (Bor (List ℕ)) → List (List ℕ)
texts words = map (λ word. word.now) words

-- a loop over words has come to one: `f` is what it spells, and these are the values so far, unless memory ran out
module _ {X : Type 0} (f : List ℕ → Result X MistakeParts) (words : List (Bor (List ℕ))) (i : ℕ) (d : Bor (List ℕ)) (below : i < length words) where
  -- the mistakes of the words that are left are those of all
  pub mistakes_left : result_err (f (get_or words i d).now) ≡ None → result_err (each f (texts (drop i words))) ≡ result_err (each f (texts words))
      → result_err (each f (texts (drop (i + 1) words))) ≡ result_err (each f (texts words))
  mistakes_left well is = grind (arith, drop_more words i d below, well, is)

  -- a mistake in this one is that of all
  pub mistake_here : (m : MistakeParts) → result_err (f (get_or words i d).now) ≡ Some m → result_err (each f (texts (drop i words))) ≡ result_err (each f (texts words))
      → result_err (each f (texts words)) ≡ Some m
  mistake_here m here is = grind (arith, drop_more words i d below, here, is)

  more : (vs : List X) (v : X) → f (get_or words i d).now ≡ Ok v → each f (texts (take i words)) ≡ Ok vs → each f (texts (take (i + 1) words)) ≡ Ok (vs ++ v ∷ [])
  more vs v is are =
      ap (λ (ws : List (Bor (List ℕ))). each f (texts ws)) (take_more words i d below) ∙ ap (each f) (map_push (λ (w : Bor (List ℕ)). w.now) (take i words) (get_or words i d))
      ∙ each_push f (texts (take i words)) (get_or words i d).now vs v are is

  -- with this one's there is one value more
  pub values_more : {V A : Type 0} (view : Vec V A → List X) (item : V → X) → ((all given : Vec V A) (v : V) → all.items ≡ given.items ++ v ∷ [] → view all ≡ view given ++ item v ∷ [])
      → (given : Result (Vec V A) NoMemory) (value : Result V NoMemory) (result : Result (Vec V A) NoMemory)
      → IfOk given (λ vs. each f (texts (take i words)) ≡ Ok (view vs)) → IfOk value (λ v. f (get_or words i d).now ≡ Ok (item v))
      → IfOk result (λ all. IsOkAnd given (λ given. IsOkAnd value (λ v. all.items ≡ given.items ++ v ∷ [])))
      → IfOk result (λ all. each f (texts (take (i + 1) words)) ≡ Ok (view all))
  values_more view item pushed (Ok given) (Ok v) (Ok all) are is made = more (view given) (item v) is are ∙ ap Ok (sym (pushed all given v made))
  values_more view item pushed given value result are is made = grind (arith, made)

-- what words spell that have no mistake
module _ {X Y : Type 0} (view : X → Y) (spelled : Result Y MistakeParts) where
  pub no_mistake : (value : Result X NoMemory) → SpellsInMemory view spelled (Ok value) → result_err spelled ≡ None
  no_mistake value is = grind (arith, is)

  pub value_if_ok : (value : Result X NoMemory) → SpellsInMemory view spelled (Ok value) → IfOk value (λ x. spelled ≡ Ok (view x))
  value_if_ok value is = grind (arith, is)

-- the mistake of what is mapped
pub mapped_err : {X Y : Type 0} (g : X → Y) (s : Result X MistakeParts) → result_err (result_map g s) ≡ result_err s
mapped_err g s = grind arith

-- the mistake of what is refused for another reason
pub mistake_of : {X E : Type 0} (why : E → MistakeParts) (given : Result X E) → result_err (result_map_err why given) ≡ option_map why (result_err given)
mistake_of why given = grind arith

-- a text for which a reader ran out of memory has no fault
pub no_fault : {X : Type 0} (x : Result X NameFault) (why : NameFault) → why ≡ fault.NoMemory → (x ≡ Err fault.NoMemory → ⊥) → (x ≡ Err why) ⊎ ((why ≡ fault.NoMemory) × IsOk x) → result_err x ≡ None
no_fault x why is never h = grind (arith, is, never, h)

-- ---- lists of values

abbrev pub joined : {X : Type 0} → List (List X) → List X
joined lists = flat_map (λ list. list) lists

joined_push : {X : Type 0} (lists : List (List X)) (v : List X) → joined (lists ++ v ∷ []) ≡ joined lists ++ v
joined_push {X} lists v = flat_map-append (λ list. list) lists (v ∷ []) ∙ ap (λ (xs : List X). joined lists ++ xs) (append-nil v)

-- with the list of one more word there are the values of one list more
module _ {X : Type 0} (f : List ℕ → Result (List X) MistakeParts) (words : List (Bor (List ℕ))) (i : ℕ) (d : Bor (List ℕ)) (below : i < length words) where
  one_more : (spelled : Result (List (List X)) MistakeParts) (vs : List X) (v : List X) → each f (texts (take i words)) ≡ spelled → result_map joined spelled ≡ Ok vs → f (get_or words i d).now ≡ Ok v
      → result_map joined (each f (texts (take (i + 1) words))) ≡ Ok (vs ++ v)
  one_more (Ok lists) vs v are so is = rw (more f words i d below lists v is are) (ap Ok (joined_push lists v ∙ ap (λ (xs : List X). xs ++ v) (cc so)))
  one_more (Err m) vs v are so is = absurd cc

  pub lists_more : {A : Type 0} (given value result : Result (Vec X A) NoMemory) → IfOk given (λ vs. result_map joined (each f (texts (take i words))) ≡ Ok vs.items)
      → IfOk value (λ v. f (get_or words i d).now ≡ Ok v.items) → IfOk result (λ all. IsOkAnd given (λ given. IsOkAnd value (λ v. all.items ≡ given.items ++ v.items)))
      → IfOk result (λ all. result_map joined (each f (texts (take (i + 1) words))) ≡ Ok all.items)
  lists_more given value result are is made = grind (arith, one_more, are, is, made)
