-- The letters of flags from an index of their table on.
use Rattle.krb_text.proofs.Cited.{◌≡◌, ℕ, suc, ◌+◌, ◌<◌, Bool, true, List, [], ◌∷◌, ◌++◌, length, get_or, drop, map, sym, ap, ◌∙◌, add-one, drop-cons, ne_eqb, not_from_false, is_set, letters_among}
use Rattle.std.specs.Prelude.{◌==◌, filter, bit_and, if◌then◌else◌}

-- if the first flag of a table is set, its letter comes first
letters_step : (flags : ℕ) (x : ℕ × ℕ) (others : List (ℕ × ℕ)) → is_set flags x ≡ true → letters_among flags (x ∷ others) ≡ x.1 ∷ letters_among flags others
letters_step flags x others set = ap (λ (b : Bool). map (λ (y : ℕ × ℕ). y.1) (if b then x ∷ filter (is_set flags) others else filter (is_set flags) others)) set

-- if the flag at an index is set, its letter comes first, then those of the flags after it
pub letters_next : (flags : ℕ) (table : List (ℕ × ℕ)) (i : ℕ) → i < length table → (bit_and flags (get_or table i (0, 0)).0 ≡ 0 → ⊥)
    → letters_among flags (drop i table) ≡ ((get_or table i (0, 0)).1 ∷ []) ++ letters_among flags (drop (i + 1) table)
letters_next flags table i within set =
    let x = get_or table i (0, 0) in
    ap (letters_among flags) (drop-cons table i (0, 0) within) ∙ letters_step flags x (drop (suc i) table) (not_from_false (bit_and flags x.0 == 0) (ne_eqb (bit_and flags x.0) 0 set))
    ∙ ap (λ (n : ℕ). x.1 ∷ letters_among flags (drop n table)) (sym (add-one i))
