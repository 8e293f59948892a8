-- The name that was meant by an unknown word.
use Rattle.std.specs.Borrow.{Bor}
use Rattle.std.specs.Prelude.{ℕ, List, [], ◌∷◌, ◌++◌, chars, codes, fold, length, map, nat_lt, ◌==◌, if◌then◌else◌, Option, None, Some}
use Rattle.strsim.specs.Edits.{osa_table}

-- how far a word is from a name
abbrev pub distance : List ℕ → List ℕ → ℕ
distance word name = (osa_table (chars word) (chars name)).last_row (length (chars name))

-- the nearest of some names, if no other is as near, and how far it is
pub record Near : Type 0 where
  pub name : Option (Bor (List ℕ))
  pub least : ℕ

abbrev pub with_name : Near → Bor (List ℕ) → ℕ → Near
with_name near name d = if nat_lt d near.least then record { name = Some name; least = d } else (if d == near.least then record near { name = None } else near)

-- the nearest of those names and one more
abbrev pub nearer : List ℕ → Near → Bor (List ℕ) → Near
nearer word near name = with_name near name (distance word name.now)

-- the name that is nearer to a word than every other; none if that is too far
abbrev pub nearest : List ℕ → List (Bor (List ℕ)) → Option (Bor (List ℕ))
nearest word names = (fold (nearer word) (record { name = None; least = 3 }) names).name

-- commands of other programs, and what does the same here
abbrev pub elsewhere : List (List ℕ × List ℕ)
elsewhere =
    map (λ name. (name, codes "klist")) (codes "list" ∷ codes "ls" ∷ []) ++ ((codes "get", codes "ktfind") ∷ [])
    ++ map (λ name. (name, codes "ktcopy")) (codes "add" ∷ codes "copy" ∷ codes "merge" ∷ [])
    ++ ((codes "rename", codes "ktcopy --as") ∷ (codes "diff", codes "ktdiff") ∷ (codes "check", codes "ktcheck") ∷ [])
    ++ map (λ name. (name, codes "ktremove")) (codes "delete" ∷ codes "del" ∷ codes "rm" ∷ codes "remove" ∷ codes "ktdel" ∷ [])
    ++ ((codes "purge", codes "ktremove -k old") ∷ [])
