-- Sets of names.
use Rattle.std.specs.Prelude.{◌≡◌, ℕ, ◌<◌, List, [], Bool, false, ◌==◌, get_or, length, Option, None, Some}
use Rattle.std.specs.List.{All, list_any}
use Rattle.std.specs.List.Sorted.{IsStrictlySortedBy}
use Rattle.std.specs.Str.{bytes_eq}
use Rattle.krb_names.specs.Hash.{HashedName, hash_of, name_cmp}

-- a name is one of those
abbrev pub is_among : List (List ℕ) → List ℕ → Bool
is_among names name = list_any (bytes_eq name) names

-- two lists have the same names
abbrev pub HaveSameNames : List (List ℕ) → List (List ℕ) → Type 0
HaveSameNames names others = (name : List ℕ) → is_among names name ≡ is_among others name

-- a place is the one given
abbrev pub is_place : Option ℕ → ℕ → Bool
is_place None n = false
is_place (Some place) n = place == n

-- a name is at that place of a list and nowhere else
abbrev pub IsAlone : List ℕ → List (List ℕ) → Option ℕ → Type 0
IsAlone name names at = (n : ℕ) → n < length names → bytes_eq name (get_or names n []) ≡ is_place at n

-- names with their hashes, in order and each once
abbrev pub AreHashed : List HashedName → Type 0
AreHashed names = IsStrictlySortedBy name_cmp names × All (λ x. x.0 ≡ hash_of x.1.now) names
