-- The words of `klist -s`.
use Rattle.std.specs.Prelude.{ℕ, ◌==◌, List, [], ◌∷◌, codes, not, ◌&&◌, ◌||◌, Bool, true, false, bytes_eq}
use Rattle.std.specs.List.{list_any}

-- a word of klist is `--silent`, or a bundle of letters with `s` among them
abbrev pub is_silent : List ℕ → Bool
is_silent [] = false
is_silent (a ∷ []) = false
is_silent (a ∷ b ∷ letters) = bytes_eq (a ∷ b ∷ letters) (codes "--silent") || ((a == 45) && (not (b == 45) && list_any (λ c. c == 115) (b ∷ letters)))
