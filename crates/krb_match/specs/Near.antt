-- How entries are found whose names are nearly those of tickets.
use Rattle.std.specs.Prelude.{◌≡◌, ℕ, List, map, if◌then◌else◌, Option, None, Some, nat_lt}
use Rattle.std.specs.Vec.{vec_items}
use Rattle.krb_names.specs.Set.{HaveSameNames}
use Rattle.krb_match.specs.declared.near.FoundKeys.{FoundKeys}
use Rattle.krb_match.specs.declared.near.NearNames.{NearNames}

-- the lesser of two numbers, or the only one
abbrev pub lesser : Option ℕ → Option ℕ → Option ℕ
lesser None other = other
lesser (Some m) None = Some m
lesser (Some m) (Some n) = Some (if nat_lt n m then n else m)

-- those keys can be found
pub record AreFound {A : Type 0} (keys : List (List ℕ)) (f : FoundKeys A) : Type 0 where
  pub keys_are : map vec_items f.keys.now ≡ keys
  pub set : HaveSameNames keys f.set

-- keys with small letters, and of names without realms
pub record AreNear {A : Type 0} (folded bare : List (List ℕ)) (near : NearNames A) : Type 0 where
  pub folded_are : AreFound folded near.folded
  pub bare_are : AreFound bare near.bare
