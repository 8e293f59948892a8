-- Each field of a credential is spelled by the bytes that it is read from, and is read back from its spelling.
use Rattle.krb_ccache.proofs.Cited.{◌≡◌, ℕ, ◌^◌, ◌<◌, List, [], ◌∷◌, ◌++◌, length, Option, Some, refl, sym, ap, subst, ◌∙◌, append_assoc, length-append, arith, flat_map, Width, w16, w32, Big, digits, data32, ◌>>=◌, byte_at, number_at, data32_at, IsBytes, IsWide, bind_some, some_is, Takes, Takes-then, wide16, wide32, number_takes, number_again, length_list, list_takes, list_again, IsField, data32_field, Version, V3, V4, TypedData, Key, number32, typed_data, typed_list, second_enctype_field, key, times, FitsTypedData, FitsTypedList, FitsSecondEnctype, FitsKey, FitsTimes, typed_data_at, typed_list_at, second_enctype_at, key_at, times_at, Times, byte_takes}

-- a number of a given width
pub number_field : (w : Width) (limit : ℕ) → IsWide Big w limit → (0 < length (digits Big w 0)) → IsField (number_at Big w) (digits Big w) (λ n. n < limit)
number_field w limit wide some = search (arith, number_takes, number_again, wide, some)

pub field16 : IsField (number_at Big w16) (digits Big w16) (λ n. n < 2 ^ 16)
field16 = number_field w16 (2 ^ 16) (wide16 Big) (omega (arith, (wide16 Big).len 0))

pub field32 : IsField (number_at Big w32) (digits Big w32) (λ n. n < 2 ^ 32)
field32 = number_field w32 (2 ^ 32) (wide32 Big) (omega (arith, (wide32 Big).len 0))

pub byte_field : IsField byte_at (λ n. n ∷ []) (λ n. n < 256)
byte_field = search (arith, byte_takes)

-- three parts before what follows
pub three_first : (a b c rest : List ℕ) → (a ++ (b ++ c)) ++ rest ≡ a ++ (b ++ (c ++ rest))
three_first a b c rest = simp append_assoc

-- a list that begins with a nonempty one is nonempty
pub some_more : (a b : List ℕ) → 0 < length a → 0 < length (a ++ b)
some_more a b some = omega (arith, some, length-append a b)

-- a field is read first, and then the steps after it are done
pub step : {A B R : Type 0} {read : List ℕ → Option (A × List ℕ)} {spell : A → List ℕ} {Fits : A → Type 0} → IsField read spell Fits → (bytes : List ℕ) (f : A × List ℕ → Option B) (y : B) → IsBytes bytes → (read bytes >>= f) ≡ Some y
    → ((a : A) (rest : List ℕ) → Takes bytes (spell a) rest → Fits a → f (a, rest) ≡ Some y → R) → R
step {read = read} field bytes f y fits e others =
    let b = bind_some (read bytes) f y e in
    let t = field.takes bytes b.0 fits b.1 in
    others b.0.0 b.0.1 t.0 t.1 b.2

-- ---- lists of typed bytes

typed_takes : (bytes : List ℕ) (x : TypedData × List ℕ) → IsBytes bytes → typed_data_at bytes ≡ Some x → Takes bytes (typed_data x.0) x.1 × FitsTypedData x.0
unfolding typed_data_at
typed_takes bytes x fits e =
    step field16 bytes _ x fits e (λ kind r1 t1 f1 e1. step (data32_field Big) r1 _ x t1.rest_fits e1 (λ text r2 t2 f2 e2.
    rw (← some_is (record { kind = kind; bytes = text }, r2) x e2) (Takes-then _ _ _ _ _ t1 t2, record { kind = f1; bytes = f2 })))

typed_again : (x : TypedData) (rest : List ℕ) → FitsTypedData x → typed_data_at (typed_data x ++ rest) ≡ Some (x, rest)
unfolding typed_data_at
typed_again x rest fits =
    ap typed_data_at (append_assoc (digits Big w16 x.kind) (data32 Big x.bytes) rest)
    ∙ rw (field16.again x.kind (data32 Big x.bytes ++ rest) fits.kind, (data32_field Big).again x.bytes rest fits.bytes) refl

pub typed_field : IsField typed_data_at typed_data FitsTypedData
typed_field = search (arith, typed_takes, typed_again, some_more, field16)

typed_list_takes : (bytes : List ℕ) (x : List TypedData × List ℕ) → IsBytes bytes → typed_list_at bytes ≡ Some x → Takes bytes (typed_list x.0) x.1 × FitsTypedList x.0
unfolding typed_list_at
typed_list_takes bytes x fits e =
    step field32 bytes _ x fits e (λ n r1 t1 f1 e1.
    let tx = list_takes typed_field n r1 x t1.rest_fits e1 in
    let count : n ≡ length x.0 = sym (length_list typed_data_at n r1 x e1) in
    (subst (λ (m : ℕ). Takes bytes (number32 m ++ flat_map typed_data x.0) x.1) count (Takes-then _ _ _ _ _ t1 tx.0), record { count = subst (λ (m : ℕ). m < 2 ^ 32) count f1; each = tx.1 }))

typed_list_again : (xs : List TypedData) (rest : List ℕ) → FitsTypedList xs → typed_list_at (typed_list xs ++ rest) ≡ Some (xs, rest)
unfolding typed_list_at
typed_list_again xs rest fits = search (arith, append_assoc, field32, list_again, typed_field)

pub typed_list_field : IsField typed_list_at typed_list FitsTypedList
typed_list_field = search (arith, typed_list_takes, typed_list_again, some_more, field32)

-- ---- keys

again_takes : (v : Version) (bytes : List ℕ) (x : ℕ × List ℕ) → IsBytes bytes → second_enctype_at v bytes ≡ Some x → Takes bytes (second_enctype_field v x.0) x.1 × FitsSecondEnctype v x.0
again_takes V3 bytes x fits e = field16.takes bytes x fits e
again_takes V4 bytes x fits e = subst (λ (y : ℕ × List ℕ). Takes bytes [] y.1 × (y.0 ≡ 0)) (some_is (0, bytes) x e) (record { parts = refl; rest_fits = fits }, refl)

again_again : (v : Version) (n : ℕ) (rest : List ℕ) → FitsSecondEnctype v n → second_enctype_at v (second_enctype_field v n ++ rest) ≡ Some (n, rest)
again_again v n rest h = search (arith, field16)

key_takes : (v : Version) (bytes : List ℕ) (x : Key × List ℕ) → IsBytes bytes → key_at v bytes ≡ Some x → Takes bytes (key v x.0) x.1 × FitsKey v x.0
unfolding key_at
key_takes v bytes x fits e =
    let n = bind_some (number_at Big w16 bytes) _ x e in
    let m = bind_some (second_enctype_at v n.0.1) _ x n.2 in
    let t = bind_some (data32_at Big m.0.1) _ x m.2 in
    let tn = field16.takes bytes n.0 fits n.1 in
    let tm = again_takes v n.0.1 m.0 tn.0.rest_fits m.1 in
    let tt = (data32_field Big).takes m.0.1 t.0 tm.0.rest_fits t.1 in
    subst (λ (y : Key × List ℕ). Takes bytes (key v y.0) y.1 × FitsKey v y.0) (some_is (record { enctype = n.0.0; second_enctype = m.0.0; bytes = t.0.0 }, t.0.1) x t.2)
    (Takes-then _ _ _ _ _ tn.0 (Takes-then _ _ _ _ _ tm.0 tt.0), record { enctype = tn.1; second_enctype = tm.1; bytes = tt.1 })

key_again : (v : Version) (k : Key) (rest : List ℕ) → FitsKey v k → key_at v (key v k ++ rest) ≡ Some (k, rest)
unfolding key_at
key_again v k rest fits =
    ap (key_at v) (three_first (digits Big w16 k.enctype) (second_enctype_field v k.second_enctype) (data32 Big k.bytes) rest)
    ∙ rw (field16.again k.enctype (second_enctype_field v k.second_enctype ++ (data32 Big k.bytes ++ rest)) fits.enctype, again_again v k.second_enctype (data32 Big k.bytes ++ rest) fits.second_enctype, (data32_field Big).again k.bytes rest fits.bytes) refl

pub key_field : (v : Version) → IsField (key_at v) (key v) (FitsKey v)
key_field v = search (arith, key_takes, key_again, some_more, field16)

-- ---- times

times_takes : (bytes : List ℕ) (x : Times × List ℕ) → IsBytes bytes → times_at bytes ≡ Some x → Takes bytes (times x.0) x.1 × FitsTimes x.0
unfolding times_at
times_takes bytes x fits e =
    step field32 bytes _ x fits e (λ authtime r1 t1 f1 e1. step field32 r1 _ x t1.rest_fits e1 (λ starttime r2 t2 f2 e2.
    step field32 r2 _ x t2.rest_fits e2 (λ endtime r3 t3 f3 e3. step field32 r3 _ x t3.rest_fits e3 (λ renew_till r4 t4 f4 e4.
    rw (← some_is (record { authtime = authtime; starttime = starttime; endtime = endtime; renew_till = renew_till }, r4) x e4)
    (Takes-then _ _ _ _ _ t1 (Takes-then _ _ _ _ _ t2 (Takes-then _ _ _ _ _ t3 t4)), record { authtime = f1; starttime = f2; endtime = f3; renew_till = f4 })))))

times_again : (t : Times) (rest : List ℕ) → FitsTimes t → times_at (times t ++ rest) ≡ Some (t, rest)
unfolding times_at
times_again t rest fits = search (arith, append_assoc, field32)

pub times_field : IsField times_at times FitsTimes
times_field = search (arith, times_takes, times_again, some_more, field32)
