-- Numbers of things that come in order, in a map: that of the first that is alike, if they are numbered from 0.
use Rattle.std.specs.Prelude.{◌≡◌, ℕ, Bool, List, unwrap_or, Some}
use Rattle.std.specs.BTreeMap.{BTreeMap, get, Updates}
use Rattle.std.specs.List.{position_from}
use Rattle.krb_names.specs.Hash.{HashedName, name_cmp}

-- a key got its number in a map: the one that it had, or else the next
pub record GetsNumber (old new : BTreeMap HashedName ℕ) (key : HashedName) (next number : ℕ) : Type 0 where
  pub is : number ≡ unwrap_or (get name_cmp old key) next
  pub updates : Updates name_cmp old new key (Some number)

-- at the key of each value the map has the number of the first thing that came with a value that is alike
abbrev pub AreNumbers : {X V : Type 0} → (X → V) → (V → V → Bool) → (V → HashedName → Type 0) → List X → BTreeMap HashedName ℕ → Type 0
AreNumbers {X} {V} value alike IsKey came numbers = (v : V) (k : HashedName) → IsKey v k → get name_cmp numbers k ≡ position_from (λ x. alike v (value x)) 0 came
