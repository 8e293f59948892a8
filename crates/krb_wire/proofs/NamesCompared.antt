-- Tests of names: whether a name can be encoded, and whether two names are the same.
use Rattle.krb_wire.proofs.Cited.{◌≡◌, ℕ, ◌^◌, ◌<◌, ◌≤◌, Bool, true, false, ltb, List, [], ◌∷◌, length, refl, sym, ap, arith, ◌&&◌, flat_map, list_all, AllByRecursion, w32, flat_map-cons, Order, Big, ltb-true, lt-ltb, Parts, digits, data32, count_field, IsShort, is_short, name_fits, IsLong, is_long, cc_name_fits, cc_principal}
use Rattle.std.proofs.lemmas.List.{length-append}
use Rattle.krb_wire.proofs.Fields.{wide32}
use Rattle.std.specs.Cmp.Lexicographic.{pointwise}
use Rattle.std.specs.Str.{bytes_eq}
use Rattle.std.proofs.lemmas.Slice.Eq.{bytes_eq-Decides, slice_eq-Decides}
use Rattle.krb_wire.specs.declared.format.KtFormat.{KtFormat}
use Rattle.krb_wire.specs.Names.{have_same_name}

-- ---- tests

same_bool : (a b : Bool) → (a ≡ true → b ≡ true) → (b ≡ true → a ≡ true) → a ≡ b
same_bool true b to from = sym (to refl)
same_bool false true to from = from refl
same_bool false false to from = refl

pub and_both : (a b : Bool) → (a && b) ≡ true → (a ≡ true) × (b ≡ true)
and_both true b e = (refl, e)
and_both false b e = absurd cc

pub both_and : (a b : Bool) → a ≡ true → b ≡ true → (a && b) ≡ true
both_and a b x y = rw (x, y) refl

no_test : (b : Bool) → (b ≡ true → ⊥) → false ≡ b
no_test true not_so = absurd (not_so refl)
no_test false not_so = refl

-- ---- what fits

-- each length and count fits its field
pub record Lengths (f : KtFormat) (p : Parts) : Type 0 where
  pub count : count_field f (length p.components) < 2 ^ 16
  pub realm : IsShort p.realm
  pub components : AllByRecursion IsShort p.components

all_fit : (n : ℕ) (cs : List (List ℕ)) → list_all (λ c. ltb (length c) n) cs ≡ true → AllByRecursion (λ c. length c < n) cs
all_fit n [] e = tt
all_fit n (c ∷ cs) e =
    let both = and_both (ltb (length c) n) (list_all (λ c. ltb (length c) n) cs) e in
    (ltb-true (length c) n both.0, all_fit n cs both.1)

fit_all : (n : ℕ) (cs : List (List ℕ)) → AllByRecursion (λ c. length c < n) cs → list_all (λ c. ltb (length c) n) cs ≡ true
fit_all n [] h = refl
fit_all n (c ∷ cs) h = both_and (ltb (length c) n) (list_all (λ c. ltb (length c) n) cs) (lt-ltb (length c) n h.0) (fit_all n cs h.1)

pub lengths_of : (f : KtFormat) (p : Parts) → name_fits f p ≡ true → Lengths f p
lengths_of f p e =
    let count = and_both (ltb (count_field f (length p.components)) (2 ^ 16)) (is_short p.realm && list_all is_short p.components) e in
    let realm = and_both (is_short p.realm) (list_all is_short p.components) count.1 in
    record {
      count = ltb-true (count_field f (length p.components)) (2 ^ 16) count.0;
      realm = ltb-true (length p.realm) (2 ^ 16) realm.0;
      components = all_fit (2 ^ 16) p.components realm.1;
    }

pub lengths_fit : (f : KtFormat) (p : Parts) → Lengths f p → name_fits f p ≡ true
lengths_fit f p h =
    both_and (ltb (count_field f (length p.components)) (2 ^ 16)) (is_short p.realm && list_all is_short p.components) (lt-ltb (count_field f (length p.components)) (2 ^ 16) h.count)
    (both_and (is_short p.realm) (list_all is_short p.components) (lt-ltb (length p.realm) (2 ^ 16) h.realm) (fit_all (2 ^ 16) p.components h.components))

pub fits_not : (f : KtFormat) (p : Parts) → (Lengths f p → ⊥) → false ≡ name_fits f p
fits_not f p not_so = no_test (name_fits f p) (λ e. not_so (lengths_of f p e))

-- each length and count fits its field in a credential cache
pub record LongLengths (p : Parts) : Type 0 where
  pub count : length p.components < 2 ^ 32
  pub realm : IsLong p.realm
  pub components : AllByRecursion IsLong p.components

pub long_lengths_of : (p : Parts) → cc_name_fits p ≡ true → LongLengths p
long_lengths_of p e =
    let count = and_both (ltb (length p.components) (2 ^ 32)) (is_long p.realm && list_all is_long p.components) e in
    let realm = and_both (is_long p.realm) (list_all is_long p.components) count.1 in
    record {
      count = ltb-true (length p.components) (2 ^ 32) count.0;
      realm = ltb-true (length p.realm) (2 ^ 32) realm.0;
      components = all_fit (2 ^ 32) p.components realm.1;
    }

pub long_lengths_fit : (p : Parts) → LongLengths p → cc_name_fits p ≡ true
long_lengths_fit p h =
    both_and (ltb (length p.components) (2 ^ 32)) (is_long p.realm && list_all is_long p.components) (lt-ltb (length p.components) (2 ^ 32) h.count)
    (both_and (is_long p.realm) (list_all is_long p.components) (lt-ltb (length p.realm) (2 ^ 32) h.realm) (fit_all (2 ^ 32) p.components h.components))

-- whether the length of a name in a credential cache fits 64 bits
abbrev pub has_cc_len : Parts → Bool
has_cc_len p = cc_name_fits p && ltb (length (cc_principal p)) (2 ^ 64)

pub no_cc_len : (p : Parts) → (LongLengths p → length (cc_principal p) < 2 ^ 64 → ⊥) → false ≡ has_cc_len p
no_cc_len p not_so =
    no_test (has_cc_len p) (λ e.
    let both = and_both (cc_name_fits p) (ltb (length (cc_principal p)) (2 ^ 64)) e in
    not_so (long_lengths_of p both.0) (ltb-true (length (cc_principal p)) (2 ^ 64) both.1))

pub some_cc_len : (p : Parts) → LongLengths p → length (cc_principal p) < 2 ^ 64 → true ≡ has_cc_len p
some_cc_len p h lt = sym (both_and (cc_name_fits p) (ltb (length (cc_principal p)) (2 ^ 64)) (long_lengths_fit p h) (lt-ltb (length (cc_principal p)) (2 ^ 64) lt))

-- each component takes at least one byte
count_le : (o : Order) (cs : List (List ℕ)) → length cs ≤ length (flat_map (data32 o) cs)
count_le o [] = omega arith
count_le o (c ∷ cs) = omega (arith, count_le o cs, ap length (flat_map-cons (data32 o) c cs), length-append (data32 o c) (flat_map (data32 o) cs), length-append (digits o w32 (length c)) c, (wide32 o).len (length c))

-- a name with more components than a count can hold is too long
pub many_long : (p : Parts) → 2 ^ 32 ≤ length p.components → 2 ^ 32 ≤ length (cc_principal p)
many_long p many =
    omega (arith, many, count_le Big p.components, length-append p.realm (flat_map (data32 Big) p.components))

-- ---- the same name

compared_same : (p q : Parts) → have_same_name p q ≡ true → (p.realm ≡ q.realm) × (p.components ≡ q.components)
compared_same p q e =
    let both = and_both (bytes_eq p.realm q.realm) (pointwise bytes_eq p.components q.components) e in
    ((bytes_eq-Decides p.realm q.realm).0 both.0, (slice_eq-Decides bytes_eq-Decides p.components q.components (pointwise bytes_eq p.components q.components) refl).0 both.1)

same_compared : (p q : Parts) → p.realm ≡ q.realm → p.components ≡ q.components → have_same_name p q ≡ true
same_compared p q same_realm same_components =
    let realm : bytes_eq p.realm q.realm ≡ true = (bytes_eq-Decides p.realm q.realm).1 same_realm in
    let components : pointwise bytes_eq p.components q.components ≡ true = (slice_eq-Decides bytes_eq-Decides p.components q.components (pointwise bytes_eq p.components q.components) refl).1 same_components in
    rw (realm, components) refl

-- a test whether realms and components are equal computes `have_same_name`
pub same_name_is : (p q : Parts) (answer : Bool) → (answer ≡ true → (p.realm ≡ q.realm) × (p.components ≡ q.components)) → (p.realm ≡ q.realm → p.components ≡ q.components → answer ≡ true) → answer ≡ have_same_name p q
same_name_is p q answer to from =
    same_bool answer (have_same_name p q) (λ e. let both = to e in same_compared p q both.0 both.1) (λ e. let both = compared_same p q e in from both.0 both.1)
