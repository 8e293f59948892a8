-- Bytes written over others.
use Rattle.krb_keytab.proofs.Cited.{◌≡◌, ℕ, ◌+◌, ◌-◌, ◌≤◌, List, ◌++◌, length, take, drop, sym, ap, ◌∙◌, append_assoc, arith, splice, Puts, drop_at, length-append, length-take, length-drop, drop-drop}
use Rattle.krb_wire.specs.declared.pen.Pen.{Pen}

pub splice-len : (xs a : List ℕ) (i j : ℕ) → j ≤ length xs → j ≡ i + length a → length (splice xs i j a) ≡ length xs
splice-len xs a i j within is_j = omega (arith, length-append (take i xs) (a ++ drop j xs), length-append a (drop j xs), length-take i xs, length-drop j xs)

-- all after the written part is unchanged
pub splice-behind : (xs a : List ℕ) (i j k : ℕ) → i ≤ length xs → j ≡ i + length a → j ≤ k → drop k (splice xs i j a) ≡ drop k xs
splice-behind xs a i j k within is_j le =
    let front = take i xs ++ a in
    let grouped : splice xs i j a ≡ front ++ drop j xs = sym (append_assoc (take i xs) a (drop j xs)) in
    let len : length front ≡ j = omega (arith, length-append (take i xs) a, length-take i xs) in
    let left : drop j (splice xs i j a) ≡ drop j xs = ap (drop j) grouped ∙ drop_at front (drop j xs) j len in
    let is_k : k ≡ j + (k - j) = omega arith in
    ap (λ (n : ℕ). drop n (splice xs i j a)) is_k ∙ sym (drop-drop (k - j) j (splice xs i j a)) ∙ ap (drop (k - j)) left
    ∙ drop-drop (k - j) j xs ∙ ap (λ (n : ℕ). drop n xs) (sym is_k)

-- what a pen wrote that started at a place of some bytes
pub written_over : (image text : List ℕ) (at end : ℕ) (old new : Pen) → Puts old new text → old.out.now ≡ image → old.at ≡ at → end ≡ at + length text → new.out.now ≡ splice image at end text
written_over image text at end old new puts is place to = search arith
