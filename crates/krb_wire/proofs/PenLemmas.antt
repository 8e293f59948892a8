-- What a pen wrote, one part after the other.
use Rattle.krb_wire.proofs.Cited.{◌≡◌, ℕ, ◌+◌, ◌-◌, ◌≤◌, List, [], ◌++◌, length, take, drop, refl, sym, ap, subst, ◌∙◌, append_assoc, arith, splice}
use Rattle.std.proofs.lemmas.List.{take_at, drop_at, take-append-drop, length-append, length-take, drop-drop}
use Rattle.krb_wire.specs.declared.pen.Pen.{Pen}
use Rattle.krb_wire.specs.Text.{HasRoom, Puts}

-- writing one part, then the next after it, is writing both
splice-splice : (xs ys zs : List ℕ) (i j k : ℕ) → i ≤ length xs → j ≡ i + length ys → j ≤ k → splice (splice xs i j ys) j k zs ≡ splice xs i k (ys ++ zs)
splice-splice xs ys zs i j k le is_j lt =
    let prefix : List ℕ = take i xs ++ ys in
    let grouped : splice xs i j ys ≡ prefix ++ drop j xs = sym (append_assoc (take i xs) ys (drop j xs)) in
    let len : length prefix ≡ j = omega (arith, length-append (take i xs) ys, length-take i xs) in
    let before : take j (splice xs i j ys) ≡ prefix = ap (take j) grouped ∙ take_at prefix (drop j xs) j len in
    let after : drop j (splice xs i j ys) ≡ drop j xs = ap (drop j) grouped ∙ drop_at prefix (drop j xs) j len in
    let more : j + (k - j) ≡ k = omega arith in
    let rest : drop k (splice xs i j ys) ≡ drop k xs = ap (λ (n : ℕ). drop n (splice xs i j ys)) (sym more) ∙ sym (drop-drop (k - j) j (splice xs i j ys)) ∙ ap (drop (k - j)) after ∙ drop-drop (k - j) j xs ∙ ap (λ (n : ℕ). drop n xs) more in
    rw (before, rest) (append_assoc (take i xs) ys (zs ++ drop k xs) ∙ ap (λ (l : List ℕ). take i xs ++ l) (sym (append_assoc ys zs (drop k xs))))

-- if one text was written and then the next, both were
pub puts_then : {old mid new : Pen} {x y : List ℕ} → Puts old mid x → Puts mid new y → Puts old new (x ++ y)
puts_then {old} {mid} {new} {x} {y} first second =
    let two = second.place in
    let end = second.within in
    let len = first.length in
    record {
      same_bytes = second.same_bytes ∙ first.same_bytes;
      place = omega (arith, length-append x y);
      within = omega arith;
      length = second.length ∙ first.length;
      bytes = second.bytes ∙ ap (λ (l : List ℕ). splice l mid.at new.at y) first.bytes ∙ splice-splice old.out.now x y old.at mid.at new.at (omega arith) first.place (omega arith);
    }

-- writing nothing is writing the empty text
pub puts_nothing : (pen : Pen) → HasRoom pen [] → Puts pen pen []
puts_nothing pen room = record {
  same_bytes = refl;
  place = omega arith;
  within = omega arith;
  length = refl;
  bytes = sym (take-append-drop pen.at pen.out.now);
}

-- a part of a text was written, and the rest is left
pub record Left (text left : List ℕ) (old now : Pen) : Type 0 where
  pub room : HasRoom now left
  pub rest : (new : Pen) → Puts now new left → Puts old new text

-- at first all of the text is left
pub left_all : {text left : List ℕ} {pen : Pen} → text ≡ left → HasRoom pen text → Left text left pen pen
left_all {text} {left} {pen} is room = record {
  room = subst (HasRoom pen) is room;
  rest = λ new puts. subst (Puts pen new) (sym is) puts;
}

-- the next piece was written
pub left_next : {text left piece others : List ℕ} {old now next : Pen} → Left text left old now → left ≡ piece ++ others → Puts now next piece → Left text others old next
left_next {text} {left} {piece} {others} {old} {now} {next} h cut puts = record {
  room = (
      omega (arith, puts.length, puts.place, h.room, ap length cut, length-append piece others));
  rest = λ new rest. h.rest new (subst (Puts now new) (sym cut) (puts_then puts rest));
}

-- the next piece fits, if it is left
pub left_room : {text left : List ℕ} {old now : Pen} (piece others : List ℕ) → Left text left old now → left ≡ piece ++ others → HasRoom now piece
left_room piece others h cut =
    omega (arith, h.room, ap length cut, length-append piece others)

-- if nothing is left, the text was written
pub left_none : {text left : List ℕ} {old now : Pen} → Left text left old now → left ≡ [] → Puts old now text
left_none {text} {left} {old} {now} h none = h.rest now (subst (Puts now now) (sym none) (puts_nothing now (let room = h.room in omega (arith, ap length none))))
