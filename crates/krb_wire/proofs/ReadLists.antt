-- Lists of items, each read in the same way.
use Rattle.krb_wire.proofs.Cited.{◌≡◌, ℕ, zero, suc, ◌+◌, ◌-◌, ◌<◌, ◌≤◌, List, [], ◌∷◌, ◌++◌, length, Option, Some, None, refl, sym, ap, subst, ◌∙◌, append_assoc, arith, option_map, slice_get, IsSome, flat_map, AllByRecursion, flat_map-cons, ◌>>=◌, list_at, list_in, list_end}
use Rattle.std.proofs.lemmas.Option.{slice_get_past}
use Rattle.krb_wire.proofs.Fields.{IsBytes, bind_some, some_is, is_some_has, Takes, Takes-then}
use Rattle.krb_wire.proofs.Places.{IsField}

-- what reads one item
abbrev pub Reader : Type 0 → Type 0
Reader X = List ℕ → Option (X × List ℕ)

end_of_bind : {X : Type 0} (x : X) (o : Option (List X × List ℕ)) → option_map (λ (y : List X × List ℕ). y.1) (o >>= λ y. Some (x ∷ y.0, y.1)) ≡ option_map (λ (y : List X × List ℕ). y.1) o
end_of_bind x (Some y) = refl
end_of_bind x None = refl

-- skipping one more item
skip_one : {X : Type 0} (read : Reader X) (n : ℕ) (bytes : List ℕ) (x : X) (after : List ℕ) → read bytes ≡ Some (x, after) → list_end read (suc n) bytes ≡ list_end read n after
skip_one read n bytes x after e = rw e (end_of_bind x (list_at read n after))

skip_none : {X : Type 0} (read : Reader X) (n : ℕ) (bytes : List ℕ) → read bytes ≡ None → list_end read (suc n) bytes ≡ None
skip_none read n bytes e = rw e refl

pub goes_on : {X : Type 0} (read : Reader X) (count i : ℕ) (bytes : List ℕ) (x : X) (after : List ℕ) (total : Option (List ℕ)) → i < count → read bytes ≡ Some (x, after)
    → list_end read (count - i) bytes ≡ total → list_end read (count - (i + 1)) after ≡ total
goes_on read count i bytes x after total lt e so_far =
    let k : count - i ≡ suc (count - (i + 1)) = omega arith in
    sym (skip_one read (count - (i + 1)) bytes x after e) ∙ ap (λ (n : ℕ). list_end read n bytes) (sym k) ∙ so_far

pub ends : {X : Type 0} (read : Reader X) (count i : ℕ) (bytes : List ℕ) (total : Option (List ℕ)) → i < count → read bytes ≡ None
    → list_end read (count - i) bytes ≡ total → total ≡ None
ends read count i bytes total lt e so_far =
    let k : count - i ≡ suc (count - (i + 1)) = omega arith in
    sym so_far ∙ ap (λ (n : ℕ). list_end read n bytes) k ∙ skip_none read (count - (i + 1)) bytes e

pub is_done : {X : Type 0} (read : Reader X) (count i : ℕ) (bytes : List ℕ) (total : Option (List ℕ)) → count ≤ i → list_end read (count - i) bytes ≡ total → total ≡ Some bytes
is_done read count i bytes total le so_far =
    let k : count - i ≡ 0 = omega arith in
    sym so_far ∙ ap (λ (n : ℕ). list_end read n bytes) k

-- the first of them, and the others
first_and_others : {X : Type 0} (read : Reader X) (n : ℕ) (bytes : List ℕ) (x : List X × List ℕ) → list_at read (suc n) bytes ≡ Some x
    → (first : X × List ℕ) × (others : List X × List ℕ) × (read bytes ≡ Some first) × (list_at read n first.1 ≡ Some others) × ((first.0 ∷ others.0, others.1) ≡ x)
first_and_others read n bytes x e =
    let a = bind_some (read bytes) (λ first. list_at read n first.1 >>= λ others. Some (first.0 ∷ others.0, others.1)) x e in
    let b = bind_some (list_at read n a.0.1) (λ others. Some (a.0.0 ∷ others.0, others.1)) x a.2 in
    (a.0, b.0, a.1, b.1, some_is (a.0.0 ∷ b.0.0, b.0.1) x b.2)

nothing : {X : Type 0} (read : Reader X) (bytes : List ℕ) (x : List X × List ℕ) → list_at read 0 bytes ≡ Some x → ([], bytes) ≡ x
nothing read bytes x e = some_is ([], bytes) x e

-- the list has as many items as the count
pub length_list : {X : Type 0} (read : Reader X) (n : ℕ) (bytes : List ℕ) (x : List X × List ℕ) → list_at read n bytes ≡ Some x → length x.0 ≡ n
length_list {X = X} read zero bytes x e = ap (λ (y : List X × List ℕ). length y.0) (sym (nothing read bytes x e))
length_list {X = X} read (suc n) bytes x e =
    let f = first_and_others read n bytes x e in
    let ih : length f.1.0 ≡ n = length_list read n f.0.1 f.1 f.3 in
    ap (λ (y : List X × List ℕ). length y.0) (sym f.4) ∙ ap suc ih

-- the item at an index is read after those before it
pub nth : {X : Type 0} (read : Reader X) (n i : ℕ) (bytes : List ℕ) (x : List X × List ℕ) → list_at read n bytes ≡ Some x → i < n
    → (rest : List ℕ) × (found : X × List ℕ) × (list_end read i bytes ≡ Some rest) × (read rest ≡ Some found) × (slice_get x.0 i ≡ Some found.0)
nth read zero i bytes x e lt = absurd (omega arith)
nth {X = X} read (suc n) zero bytes x e lt =
    let f = first_and_others read n bytes x e in
    (bytes, f.0, refl, f.2, ap (λ (y : List X × List ℕ). slice_get y.0 0) (sym f.4))
nth {X = X} read (suc n) (suc i) bytes x e lt =
    let f = first_and_others read n bytes x e in
    let ih = nth read n i f.0.1 f.1 f.3 (omega arith) in
    (ih.0, ih.1, skip_one read i bytes f.0.0 f.0.1 f.2 ∙ ih.2, ih.3, ap (λ (y : List X × List ℕ). slice_get y.0 (suc i)) (sym f.4) ∙ ih.4)

-- ---- the items that a view holds

list_in-is : {X : Type 0} (read : Reader X) (n : ℕ) (bytes : List ℕ) (x : List X × List ℕ) → list_at read n bytes ≡ Some x → list_in read n bytes ≡ x.0
list_in-is read n bytes x e = rw e refl

pub length_held : {X : Type 0} (read : Reader X) (n : ℕ) (bytes : List ℕ) → IsSome (list_at read n bytes) → n ≡ length (list_in read n bytes)
length_held read n bytes h =
    let x = is_some_has (list_at read n bytes) h in
    sym (ap length (list_in-is read n bytes x.0 x.1) ∙ length_list read n bytes x.0 x.1)

pub past_held : {X : Type 0} (read : Reader X) (n : ℕ) (bytes : List ℕ) (i : ℕ) → IsSome (list_at read n bytes) → n ≤ i → None ≡ slice_get (list_in read n bytes) i
past_held read n bytes i h le = sym (slice_get_past (list_in read n bytes) i (omega (arith, length_held read n bytes h)))

pub held_has_end : {X : Type 0} (read : Reader X) (n : ℕ) (bytes : List ℕ) (i : ℕ) → IsSome (list_at read n bytes) → i < n → list_end read i bytes ≡ None → ⊥
held_has_end read n bytes i h lt e =
    let x = is_some_has (list_at read n bytes) h in
    let f = nth read n i bytes x.0 x.1 lt in
    cc (f.2)

pub held_has_one : {X : Type 0} (read : Reader X) (n : ℕ) (bytes : List ℕ) (i : ℕ) (rest : List ℕ) → IsSome (list_at read n bytes) → i < n → list_end read i bytes ≡ Some rest → read rest ≡ None → ⊥
held_has_one read n bytes i rest h lt e none =
    let x = is_some_has (list_at read n bytes) h in
    let f = nth read n i bytes x.0 x.1 lt in
    let same : f.0 ≡ rest = cc (f.2, e) in
    cc (f.3, ap read same, none)

pub held : {X : Type 0} (read : Reader X) (n : ℕ) (bytes : List ℕ) (i : ℕ) (rest : List ℕ) (y : X) (after : List ℕ) → IsSome (list_at read n bytes) → i < n → list_end read i bytes ≡ Some rest → read rest ≡ Some (y, after) → Some y ≡ slice_get (list_in read n bytes) i
held {X = X} read n bytes i rest y after h lt e found =
    let x = is_some_has (list_at read n bytes) h in
    let f = nth read n i bytes x.0 x.1 lt in
    let same : f.0 ≡ rest = cc (f.2, e) in
    let pair : f.1 ≡ (y, after) = some_is f.1 (y, after) (sym f.3 ∙ ap read same ∙ found) in
    sym (ap (λ (xs : List X). slice_get xs i) (list_in-is read n bytes x.0 x.1) ∙ f.4 ∙ ap (λ (z : X × List ℕ). Some z.0) pair)

-- the first of them, and the others
pub first_held : {X : Type 0} (read : Reader X) (count : ℕ) (bytes : List ℕ) (y : X) (after : List ℕ) → IsSome (list_at read count bytes) → 0 < count → read bytes ≡ Some (y, after)
    → (list_in read count bytes ≡ y ∷ list_in read (count - 1) after) × IsSome (list_at read (count - 1) after)
first_held read zero bytes y after h lt found = absurd (omega arith)
first_held {X = X} read (suc n) bytes y after h lt found =
    let x = is_some_has (list_at read (suc n) bytes) h in
    let f = first_and_others read n bytes x.0 x.1 in
    let pair : f.0 ≡ (y, after) = some_is f.0 (y, after) (sym f.2 ∙ found) in
    let others : list_at read n after ≡ Some f.1 = ap (λ (p : X × List ℕ). list_at read n p.1) (sym pair) ∙ f.3 in
    let k : suc n - 1 ≡ n = omega arith in
    let whole : list_in read (suc n) bytes ≡ f.0.0 ∷ f.1.0 = list_in-is read (suc n) bytes x.0 x.1 ∙ ap (λ (z : List X × List ℕ). z.0) (sym f.4) in
    rw k (whole ∙ ap (λ (p : X × List ℕ). p.0 ∷ f.1.0) pair ∙ ap (λ (xs : List X). y ∷ xs) (sym (list_in-is read n after f.1 others)), rw others refl)

pub none_held : {X : Type 0} (read : Reader X) (count : ℕ) (bytes : List ℕ) → IsSome (list_at read count bytes) → 0 < count → read bytes ≡ None → ⊥
none_held read count bytes h lt e = held_has_one read count bytes 0 bytes h lt refl e

-- ---- spelled and read

pub list_takes : {X : Type 0} {read : Reader X} {spell : X → List ℕ} {Fits : X → Type 0} → IsField read spell Fits → (n : ℕ) (bytes : List ℕ) (x : List X × List ℕ) → IsBytes bytes → list_at read n bytes ≡ Some x → Takes bytes (flat_map spell x.0) x.1 × AllByRecursion Fits x.0
list_takes {X = X} {read = read} {spell = spell} {Fits = Fits} field zero bytes x fits e =
    subst (λ (y : List X × List ℕ). Takes bytes (flat_map spell y.0) y.1 × AllByRecursion Fits y.0) (nothing read bytes x e) (record { parts = refl; rest_fits = fits }, tt)
list_takes {X = X} {read = read} {spell = spell} {Fits = Fits} field (suc n) bytes x fits e =
    let f = first_and_others read n bytes x e in
    let t = field.takes bytes f.0 fits f.2 in
    let ih = list_takes field n f.0.1 f.1 t.0.rest_fits f.3 in
    let both = Takes-then bytes (spell f.0.0) f.0.1 (flat_map spell f.1.0) f.1.1 t.0 ih.0 in
    let whole : Takes bytes (flat_map spell (f.0.0 ∷ f.1.0)) f.1.1 = rw (flat_map-cons spell f.0.0 f.1.0) both in
    subst (λ (y : List X × List ℕ). Takes bytes (flat_map spell y.0) y.1 × AllByRecursion Fits y.0) f.4 (whole, (t.1, ih.1))

pub list_again : {X : Type 0} {read : Reader X} {spell : X → List ℕ} {Fits : X → Type 0} → IsField read spell Fits → (xs : List X) (rest : List ℕ) → AllByRecursion Fits xs → list_at read (length xs) (flat_map spell xs ++ rest) ≡ Some (xs, rest)
list_again field [] rest all = refl
list_again {read = read} {spell = spell} field (x ∷ xs) rest all =
    let grouped : flat_map spell (x ∷ xs) ++ rest ≡ spell x ++ (flat_map spell xs ++ rest) = ap (λ (b : List ℕ). b ++ rest) (flat_map-cons spell x xs) ∙ append_assoc (spell x) (flat_map spell xs) rest in
    ap (list_at read (suc (length xs))) grouped ∙ rw (field.again x (flat_map spell xs ++ rest) all.0, list_again field xs rest all.1) refl
