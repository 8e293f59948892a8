-- What is read as a field is the encoding of that field, and an encoded field is read back.
use Rattle.krb_wire.proofs.Cited.{◌≡◌, ℕ, suc, [], ◌∷◌, Result, Ok, ◌+◌, ◌^◌, ◌<◌, ◌≤◌, Bool, true, false, cond, ltb, List, ◌++◌, length, get_or, take, drop, Option, Some, None, refl, sym, ap, subst, ◌∙◌, append_assoc, arith, inl, inr, IsSome, Width, w16, w32, byte_len, cases_lt, ltb-false, le-ltb, Order, Big, Little, digits, number, counted, data16, data32, IsShort, IsLong, ◌>>=◌, number_at, counted_at, data16_at, data32_at}
use Rattle.krb_wire.specs.Reading.{byte_at}
use Rattle.std.proofs.lemmas.List.{take_at, drop_at, take-append-drop, length-append, length-take, get_or-drop, get_or-take, get_or_past}
use Rattle.std.proofs.lemmas.Nat.{be_bytes_2, be_bytes_4, le_bytes_2, le_bytes_4, from_be_bytes-to_be_bytes_2, from_be_bytes-to_be_bytes_4, from_le_bytes-to_le_bytes_2, from_le_bytes-to_le_bytes_4}

abbrev pub IsBytes : List ℕ → Type 0
IsBytes bytes = (i : ℕ) → get_or bytes i 0 < 256

pub IsBytes-drop : (n : ℕ) (bytes : List ℕ) → IsBytes bytes → IsBytes (drop n bytes)
IsBytes-drop n bytes h i = rw get_or-drop (h (n + i))

pub IsBytes-take : (n : ℕ) (bytes : List ℕ) → IsBytes bytes → IsBytes (take n bytes)
IsBytes-take n bytes h i =
    elim (cases_lt i n) [
      | inl lt ↦ rw (get_or-take n bytes i 0 lt) (h i)
      | inr le ↦ rw (get_or_past (take n bytes) i 0 (omega (arith, length-take n bytes))) (omega arith)
    ]

-- bytes joined are bytes in front
pub IsBytes-front : (a b : List ℕ) → IsBytes (a ++ b) → IsBytes a
IsBytes-front a b fits = subst IsBytes (take_at a b (length a) refl) (IsBytes-take (length a) (a ++ b) fits)

-- and behind
pub IsBytes-back : (a b : List ℕ) → IsBytes (a ++ b) → IsBytes b
IsBytes-back a b fits = subst IsBytes (drop_at a b (length a) refl) (IsBytes-drop (length a) (a ++ b) fits)

-- the value of a step that did not fail
pub bind_some : {A B : Type 0} (o : Option A) (f : A → Option B) (y : B) → (o >>= f) ≡ Some y → (x : A) × (o ≡ Some x) × (f x ≡ Some y)
bind_some (Some x) f y e = (x, refl, e)
bind_some None f y e = absurd cc

-- a test that did not fail
guard_some : {A : Type 0} (b : Bool) (x y : A) → cond b None (Some x) ≡ Some y → (b ≡ false) × (x ≡ y)
guard_some true x y e = absurd cc
guard_some false x y e = (refl, cc)

abbrev done : {A : Type 0} → A → Option A
done x = Some x

pub some_is : {A : Type 0} (x y : A) → done x ≡ done y → x ≡ y
some_is x y e = cc

pub is_some_has : {A : Type 0} (o : Option A) → IsSome o → (x : A) × (o ≡ Some x)
is_some_has (Some x) h = (x, refl)
is_some_has None h = absurd cc

-- a result has one value
pub ok_is : {X Y : Type 0} (a b : X) → ◌≡◌ {A = Result X Y} (Ok a) (Ok b) → a ≡ b
ok_is a b e = cc

-- what a reader took from the front of the bytes
pub record Takes (bytes text rest : List ℕ) : Type 0 where
  pub parts : bytes ≡ text ++ rest
  pub rest_fits : IsBytes rest

pub Takes-then : (a x b y c : List ℕ) → Takes a x b → Takes b y c → Takes a (x ++ y) c
Takes-then a x b y c p q = record { parts = p.parts ∙ ap (λ (t : List ℕ). x ++ t) q.parts ∙ sym (append_assoc x y c); rest_fits = q.rest_fits }

-- ---- numbers

-- a byte that was read
pub byte_takes : (bytes : List ℕ) (x : ℕ × List ℕ) → IsBytes bytes → byte_at bytes ≡ Some x → Takes bytes (x.0 ∷ []) x.1 × (x.0 < 256)
byte_takes [] x fits e = absurd cc
byte_takes (b ∷ bs) x fits e = subst (λ (y : ℕ × List ℕ). Takes (b ∷ bs) (y.0 ∷ []) y.1 × (y.0 < 256)) (some_is (b, bs) x e) (record { parts = refl; rest_fits = λ i. fits (suc i) }, fits 0)

pub record IsWide (o : Order) (w : Width) (limit : ℕ) : Type 0 where
  pub len : (n : ℕ) → length (digits o w n) ≡ byte_len w
  pub back : (bytes : List ℕ) → length bytes ≡ byte_len w → IsBytes bytes → digits o w (number o w bytes) ≡ bytes
  pub again : (n : ℕ) → n < limit → number o w (digits o w n) ≡ n
  pub below : (bytes : List ℕ) → IsBytes bytes → number o w bytes < limit

pub wide16 : (o : Order) → IsWide o w16 (2 ^ 16)
wide16 Big = record {
  len = λ n. refl;
  back = λ bytes len fits. be_bytes_2 bytes _ len fits refl;
  again = λ n lt. from_be_bytes-to_be_bytes_2 n lt;
  below = λ bytes fits. omega (arith, fits 0, fits 1);
}
wide16 Little = record {
  len = λ n. refl;
  back = λ bytes len fits. le_bytes_2 bytes _ len fits refl;
  again = λ n lt. from_le_bytes-to_le_bytes_2 n lt;
  below = λ bytes fits. omega (arith, fits 0, fits 1);
}

pub wide32 : (o : Order) → IsWide o w32 (2 ^ 32)
wide32 Big = record {
  len = λ n. refl;
  back = λ bytes len fits. be_bytes_4 bytes _ len fits refl;
  again = λ n lt. from_be_bytes-to_be_bytes_4 n lt;
  below = λ bytes fits. omega (arith, fits 0, fits 1, fits 2, fits 3);
}
wide32 Little = record {
  len = λ n. refl;
  back = λ bytes len fits. le_bytes_4 bytes _ len fits refl;
  again = λ n lt. from_le_bytes-to_le_bytes_4 n lt;
  below = λ bytes fits. omega (arith, fits 0, fits 1, fits 2, fits 3);
}

pub number_takes : (o : Order) (w : Width) (limit : ℕ) (wide : IsWide o w limit) (bytes : List ℕ) (n : ℕ) (rest : List ℕ) → IsBytes bytes → number_at o w bytes ≡ Some (n, rest) → Takes bytes (digits o w n) rest × (n < limit)
number_takes o w limit wide bytes n rest fits e =
    let g = guard_some (ltb (length bytes) (byte_len w)) (number o w (take (byte_len w) bytes), drop (byte_len w) bytes) (n, rest) e in
    let long : byte_len w ≤ length bytes = ltb-false _ _ g.0 in
    let n-is : number o w (take (byte_len w) bytes) ≡ n = ap (λ (p : ℕ × List ℕ). p.0) g.1 in
    let rest-is : drop (byte_len w) bytes ≡ rest = ap (λ (p : ℕ × List ℕ). p.1) g.1 in
    let prefix : digits o w n ≡ take (byte_len w) bytes = rw (← n-is) (wide.back (take (byte_len w) bytes) (omega (arith, length-take (byte_len w) bytes)) (IsBytes-take (byte_len w) bytes fits)) in
    (record { parts = rw (prefix, ← rest-is) (sym (take-append-drop (byte_len w) bytes)); rest_fits = rw (← rest-is) (IsBytes-drop (byte_len w) bytes fits) }, rw (← n-is) (wide.below (take (byte_len w) bytes) (IsBytes-take (byte_len w) bytes fits)))

pub number_again : (o : Order) (w : Width) (limit : ℕ) (wide : IsWide o w limit) (n : ℕ) (rest : List ℕ) → n < limit → number_at o w (digits o w n ++ rest) ≡ Some (n, rest)
number_again o w limit wide n rest lt =
    let len = wide.len n in
    let long : ltb (length (digits o w n ++ rest)) (byte_len w) ≡ false = le-ltb _ _ (omega (arith, length-append (digits o w n) rest)) in
    rw (long, take_at (digits o w n) rest (byte_len w) len, drop_at (digits o w n) rest (byte_len w) len, wide.again n lt) refl

-- ---- counted data

counted_takes : (o : Order) (w : Width) (limit : ℕ) (wide : IsWide o w limit) (bytes text rest : List ℕ) → IsBytes bytes → counted_at o w bytes ≡ Some (text, rest) → Takes bytes (counted o w text) rest × (length text < limit)
counted_takes o w limit wide bytes text rest fits e =
    let b = bind_some (number_at o w bytes) (λ n. cond (ltb (length n.1) n.0) None (Some (take n.0 n.1, drop n.0 n.1))) (text, rest) e in
    let n = b.0 in
    let t = number_takes o w limit wide bytes n.0 n.1 fits b.1 in
    let g = guard_some (ltb (length n.1) n.0) (take n.0 n.1, drop n.0 n.1) (text, rest) b.2 in
    let long : n.0 ≤ length n.1 = ltb-false _ _ g.0 in
    let len : length (take n.0 n.1) ≡ n.0 = omega (arith, length-take n.0 n.1) in
    let second : Takes n.1 (take n.0 n.1) (drop n.0 n.1) = record { parts = sym (take-append-drop n.0 n.1); rest_fits = IsBytes-drop n.0 n.1 t.0.rest_fits } in
    let both = Takes-then bytes (digits o w n.0) n.1 (take n.0 n.1) (drop n.0 n.1) t.0 second in
    let whole : Takes bytes (counted o w (take n.0 n.1)) (drop n.0 n.1) = subst (λ (k : ℕ). Takes bytes (digits o w k ++ take n.0 n.1) (drop n.0 n.1)) (sym len) both in
    subst (λ (p : List ℕ × List ℕ). Takes bytes (counted o w p.0) p.1 × (length p.0 < limit)) g.1 (whole, omega (arith, t.1))

counted_again : (o : Order) (w : Width) (limit : ℕ) (wide : IsWide o w limit) (text rest : List ℕ) → length text < limit → counted_at o w (counted o w text ++ rest) ≡ Some (text, rest)
counted_again o w limit wide text rest lt =
    let long : ltb (length (text ++ rest)) (length text) ≡ false = le-ltb _ _ (omega (arith, length-append text rest)) in
    let grouped : (digits o w (length text) ++ text) ++ rest ≡ digits o w (length text) ++ (text ++ rest) = append_assoc (digits o w (length text)) text rest in
    ap (counted_at o w) grouped ∙ rw (number_again o w limit wide (length text) (text ++ rest) lt, long, take_at text rest (length text) refl, drop_at text rest (length text) refl) refl

pub data16_takes : (o : Order) (bytes text rest : List ℕ) → IsBytes bytes → data16_at o bytes ≡ Some (text, rest) → Takes bytes (data16 o text) rest × IsShort text
unfolding data16_at
data16_takes o bytes text rest fits e = counted_takes o w16 (2 ^ 16) (wide16 o) bytes text rest fits e

pub data16_again : (o : Order) (text rest : List ℕ) → IsShort text → data16_at o (data16 o text ++ rest) ≡ Some (text, rest)
unfolding data16_at
data16_again o text rest lt = counted_again o w16 (2 ^ 16) (wide16 o) text rest lt

pub data32_takes : (o : Order) (bytes text rest : List ℕ) → IsBytes bytes → data32_at o bytes ≡ Some (text, rest) → Takes bytes (data32 o text) rest × IsLong text
unfolding data32_at
data32_takes o bytes text rest fits e = counted_takes o w32 (2 ^ 32) (wide32 o) bytes text rest fits e

pub data32_again : (o : Order) (text rest : List ℕ) → IsLong text → data32_at o (data32 o text ++ rest) ≡ Some (text, rest)
unfolding data32_at
data32_again o text rest lt = counted_again o w32 (2 ^ 32) (wide32 o) text rest lt
