-- A number right-aligned in four columns.
use Rattle.krb_text.proofs.Cited.{◌≡◌, ℕ, ◌+◌, ◌-◌, ◌≤◌, List, [], ◌∷◌, ◌++◌, length, take, drop, replicate, sym, ap, ◌∙◌, append_assoc, length-append, take-append-drop, arith, min}
use Rattle.std.proofs.lemmas.List.{drop_at, take_all, take-replicate, length-replicate, replicate-append-replicate}

-- of 21 spaces with digits written up to the last one, the slice from the digits or from 16, whichever is first
pub right_aligned : (text digits : List ℕ) (start m : ℕ) → start + length digits ≡ 20 → drop start text ≡ digits ++ (32 ∷ []) → take start text ≡ take start (replicate {A = ℕ} 21 32) → m ≡ min start 16
    → take (21 - m) (drop m text) ≡ (replicate (4 - length digits) 32 ++ digits) ++ (32 ∷ [])
right_aligned text digits start m len written before is_m =
    let rest = digits ++ (32 ∷ []) in
    let more = start - m in
    let places : m + more ≡ start = omega (arith, is_m) in
    let four : more ≡ 4 - length digits = omega (arith, is_m, len) in
    let spaces : take start text ≡ replicate m 32 ++ replicate more 32 =
    before ∙ take-replicate start 21 32 (omega (arith, len)) ∙ ap (λ (n : ℕ). replicate {A = ℕ} n 32) (sym places) ∙ sym (replicate-append-replicate m more 32) in
    let whole : text ≡ replicate m 32 ++ (replicate more 32 ++ rest) =
    sym (take-append-drop start text) ∙ ap (λ (t : List ℕ). t ++ drop start text) spaces ∙ ap (λ (t : List ℕ). (replicate m 32 ++ replicate more 32) ++ t) written ∙ append_assoc (replicate m 32) (replicate more 32) rest in
    let behind : drop m text ≡ replicate more 32 ++ rest = ap (drop m) whole ∙ drop_at (replicate {A = ℕ} m 32) (replicate more 32 ++ rest) m (length-replicate m 32) in
    let fits : length (replicate more 32 ++ rest) ≤ 21 - m = omega (arith, is_m, len, length-append (replicate more 32) rest, length-replicate {A = ℕ} more 32, length-append digits (32 ∷ [])) in
    ap (take (21 - m)) behind ∙ take_all (21 - m) (replicate more 32 ++ rest) fits ∙ sym (append_assoc (replicate more 32) digits (32 ∷ [])) ∙ ap (λ (n : ℕ). (replicate n 32 ++ digits) ++ (32 ∷ [])) four
