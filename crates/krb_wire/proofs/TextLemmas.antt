-- Appending a text piece by piece.
use Rattle.krb_wire.proofs.Cited.{◌≡◌, ℕ, ◌≤◌, List, [], ◌∷◌, ◌++◌, Bool, true, false, length, Vec, Result, Ok, Err, refl, sym, ap, ◌∙◌, append_assoc, append-nil, length-append, vec_capacity, arith, on_err_weaker, quote, joined_components}
use Rattle.krb_wire.specs.Text.{separator, Grew, Appended, AppendedPart}

-- nothing was appended
Grew-none : (a b : List ℕ) → b ≡ a → Grew a b
Grew-none a b same = record { more = []; parts = same ∙ sym (append-nil a) }

-- bytes were appended, and then more
Grew-then : (a b c : List ℕ) → Grew a b → Grew b c → Grew a c
Grew-then a b c p q = record { more = p.more ++ q.more; parts = q.parts ∙ ap (λ (x : List ℕ). x ++ q.more) p.parts ∙ append_assoc a p.more q.more }

-- appending all or nothing is appending all or a part
pub appended_part : {A E : Type 0} (text : List ℕ) (old new : Vec ℕ A) (r : Result (Unit {0}) E) → Appended text old new r → AppendedPart text old new r
appended_part text old new r h = record { ok = h.ok; err = on_err_weaker r (Grew-none old.items new.items) h.err; capacity = h.capacity; full = h.full }

-- one part of a text was appended, and the rest is left
pub record Left {A : Type 0} (text left : List ℕ) (old out : Vec ℕ A) : Type 0 where
  pub parts : old.items ++ text ≡ out.items ++ left
  pub grew : Grew old.items out.items
  pub capacity : vec_capacity old ≤ vec_capacity out

-- at first all of the text is left
pub left_all : {A : Type 0} (text left : List ℕ) (out : Vec ℕ A) → text ≡ left → Left text left out out
left_all text left out is = record { parts = ap (λ (t : List ℕ). out.items ++ t) is; grew = Grew-none out.items out.items refl; capacity = omega arith }

-- the next piece was appended
pub left_next : {A E : Type 0} (text left piece rest : List ℕ) (old out new : Vec ℕ A) → Left text left old out → left ≡ piece ++ rest → AppendedPart {E = E} piece out new (Ok tt) → Left text rest old new
left_next text left piece rest old out new h is piece_is = record {
  parts = h.parts ∙ ap (λ (t : List ℕ). out.items ++ t) is ∙ sym (append_assoc out.items piece rest) ∙ ap (λ (t : List ℕ). t ++ rest) (sym piece_is.ok);
  grew = Grew-then _ _ _ h.grew (record { more = piece; parts = piece_is.ok });
  capacity = (let before = h.capacity in let after = piece_is.capacity in omega (arith, before, after));
}

-- an allocation failed for the next piece
pub left_fails : {A E F : Type 0} (text left piece rest : List ℕ) (old out new : Vec ℕ A) (e : E) (f : F) → Left text left old out → left ≡ piece ++ rest → AppendedPart piece out new (Err e) → AppendedPart text old new (Err f)
left_fails text left piece rest old out new e f h is refused = record {
  ok = tt;
  err = Grew-then _ _ _ h.grew refused.err;
  capacity = (let before = h.capacity in let after = refused.capacity in omega (arith, before, after));
  full = (
      let all = ap length (h.parts ∙ ap (λ (t : List ℕ). out.items ++ t) is) in
      omega (arith, old.ok.0, out.ok.0, h.capacity, refused.full, all, length-append old.items text, length-append out.items (piece ++ rest), length-append piece rest));
}

-- if nothing is left, the text was appended
pub left_none : {A E : Type 0} (text left : List ℕ) (old out : Vec ℕ A) → Left text left old out → left ≡ [] → AppendedPart {E = E} text old out (Ok tt)
left_none text left old out h none = record { ok = sym (append-nil out.items) ∙ ap (λ (t : List ℕ). out.items ++ t) (sym none) ∙ sym h.parts; err = tt; capacity = h.capacity; full = tt }

-- components as text, with a `/` before the first or not
abbrev pub joined_from : Bool → List (List ℕ) → List ℕ
joined_from first [] = []
joined_from first (c ∷ cs) = (separator first ++ quote c) ++ joined_from false cs

-- joining with a `/` between each two is the same as with one before each but the first
pub joined_is : (cs : List (List ℕ)) → joined_components cs ≡ joined_from true cs
unfolding joined_components
joined_is [] = refl
joined_is (c ∷ []) = sym (append-nil (quote c))
joined_is (c ∷ d ∷ cs) = ap (λ (t : List ℕ). quote c ++ (47 ∷ t)) (joined_is (d ∷ cs))
