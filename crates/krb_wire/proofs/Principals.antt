-- What is read as a name is the encoding of that name, and an encoded name is read back.
use Rattle.krb_wire.proofs.Cited.{◌≡◌, ℕ, ◌+◌, ◌-◌, ◌^◌, ◌<◌, Bool, true, false, cond, ltb, List, [], ◌++◌, length, Some, None, refl, sym, ap, subst, ◌∙◌, append_assoc, arith, flat_map, w16, w32, le-ltb, ltb-false, Order, Big, Parts, digits, data16, data32, order_of, counted_realms, count_field, name_type_field, kt_principal, cc_principal, HasNameType, IsShort, IsLong, FitsKt, FitsCc, data_text, FitsLength, ◌>>=◌, number_at, data16_at, data32_at, data_at, list_at, components_at, components_of_count, name_type_at, kt_principal_at, cc_principal_at}
use Rattle.std.proofs.lemmas.List.{length-append}
use Rattle.krb_wire.specs.declared.format.Lengths.{Lengths}
use Rattle.krb_wire.specs.declared.format.Lengths.TheVariants.{Bits16, Bits32}
use Rattle.krb_wire.specs.declared.format.KtFormat.{KtFormat}
use Rattle.krb_wire.specs.declared.format.KtFormat.TheVariants.{V1, V2}
use Rattle.krb_wire.proofs.Fields.{IsBytes, bind_some, some_is, Takes, Takes-then, wide16, wide32, number_takes, number_again, data16_takes, data16_again, data32_takes, data32_again}
use Rattle.krb_wire.proofs.NamesCompared.{lengths_of, lengths_fit}
use Rattle.krb_wire.proofs.Places.{IsField}
use Rattle.krb_wire.proofs.ReadLists.{length_list, list_takes, list_again}

taken_off : (less : Bool) (k field n : ℕ) → ltb field k ≡ less → cond less None (Some (field - k)) ≡ Some n → field ≡ n + k
taken_off true k field n less e = absurd cc
taken_off false k field n less e = let same : field - k ≡ n = some_is (field - k) n e in omega (arith, ltb-false field k less)

count_is : (f : KtFormat) (field n : ℕ) → components_of_count f field ≡ Some n → field ≡ count_field f n
count_is f field n e = taken_off (ltb field (counted_realms f)) (counted_realms f) field n refl e

added_again : (k n : ℕ) → cond (ltb (n + k) k) None (Some (n + k - k)) ≡ Some n
added_again k n =
    let same : n + k - k ≡ n = omega arith in
    rw (le-ltb (n + k) k (omega arith)) (ap (λ (m : ℕ). Some m) same)

count_again : (f : KtFormat) (n : ℕ) → components_of_count f (count_field f n) ≡ Some n
count_again f n = added_again (counted_realms f) n

name_type_takes : (f : KtFormat) (bytes : List ℕ) (x : ℕ × List ℕ) → IsBytes bytes → name_type_at f bytes ≡ Some x → Takes bytes (name_type_field f x.0) x.1 × HasNameType f x.0
name_type_takes (V1 o) bytes x fits e = subst (λ (y : ℕ × List ℕ). Takes bytes [] y.1 × (y.0 ≡ 0)) (some_is (0, bytes) x e) (record { parts = refl; rest_fits = fits }, refl)
name_type_takes V2 bytes x fits e = number_takes Big w32 (2 ^ 32) (wide32 Big) bytes x.0 x.1 fits e

name_type_again : (f : KtFormat) (t : ℕ) (rest : List ℕ) → HasNameType f t → name_type_at f (name_type_field f t ++ rest) ≡ Some (t, rest)
name_type_again (V1 o) t rest h = ap (λ (n : ℕ). Some (n, rest)) (sym h)
name_type_again V2 t rest h = number_again Big w32 (2 ^ 32) (wide32 Big) t rest h

-- ---- counted data

no_data16 : (o : Order) → data16_at o [] ≡ None
unfolding data16_at
no_data16 o = refl

no_data32 : (o : Order) → data32_at o [] ≡ None
unfolding data32_at
no_data32 o = refl

pub data16_field : (o : Order) → IsField (data16_at o) (data16 o) IsShort
data16_field o = record {
  takes = λ bytes x fits e. data16_takes o bytes x.0 x.1 fits e;
  again = λ text rest short. data16_again o text rest short;
  nonempty = λ text. omega (arith, (wide16 o).len (length text), length-append (digits o w16 (length text)) text);
}

pub data32_field : (o : Order) → IsField (data32_at o) (data32 o) IsLong
data32_field o = record {
  takes = λ bytes x fits e. data32_takes o bytes x.0 x.1 fits e;
  again = λ text rest long. data32_again o text rest long;
  nonempty = λ text. omega (arith, (wide32 o).len (length text), length-append (digits o w32 (length text)) text);
}

pub no_data : (l : Lengths) → data_at l [] ≡ None
no_data (Bits16 o) = no_data16 o
no_data (Bits32 o) = no_data32 o

pub data_field : (l : Lengths) → IsField (data_at l) (data_text l) (FitsLength l)
data_field (Bits16 o) = data16_field o
data_field (Bits32 o) = data32_field o

-- ---- a name in a keytab

pub kt_principal_takes : (f : KtFormat) (bytes : List ℕ) (x : Parts × List ℕ) → IsBytes bytes → kt_principal_at f bytes ≡ Some x → Takes bytes (kt_principal f x.0) x.1 × FitsKt f x.0
unfolding kt_principal_at components_at
kt_principal_takes f bytes x fits e =
    let o = order_of f in
    let a = bind_some (number_at o w16 bytes) (λ count. components_of_count f count.0 >>= λ n. data16_at o count.1 >>= λ realm. components_at o n realm.1 >>= λ components. name_type_at f components.1 >>= λ name_type. Some (record { name_type = name_type.0; realm = realm.0; components = components.0 }, name_type.1)) x e in
    let b = bind_some (components_of_count f a.0.0) (λ n. data16_at o a.0.1 >>= λ realm. components_at o n realm.1 >>= λ components. name_type_at f components.1 >>= λ name_type. Some (record { name_type = name_type.0; realm = realm.0; components = components.0 }, name_type.1)) x a.2 in
    let r = bind_some (data16_at o a.0.1) (λ realm. components_at o b.0 realm.1 >>= λ components. name_type_at f components.1 >>= λ name_type. Some (record { name_type = name_type.0; realm = realm.0; components = components.0 }, name_type.1)) x b.2 in
    let c = bind_some (components_at o b.0 r.0.1) (λ components. name_type_at f components.1 >>= λ name_type. Some (record { name_type = name_type.0; realm = r.0.0; components = components.0 }, name_type.1)) x r.2 in
    let t = bind_some (name_type_at f c.0.1) (λ name_type. Some (record { name_type = name_type.0; realm = r.0.0; components = c.0.0 }, name_type.1)) x c.2 in
    let ta = number_takes o w16 (2 ^ 16) (wide16 o) bytes a.0.0 a.0.1 fits a.1 in
    let tr = data16_takes o a.0.1 r.0.0 r.0.1 ta.0.rest_fits r.1 in
    let tc = list_takes (data16_field o) b.0 r.0.1 c.0 tr.0.rest_fits c.1 in
    let tt = name_type_takes f c.0.1 t.0 tc.0.rest_fits t.1 in
    let field : a.0.0 ≡ count_field f (length c.0.0) = count_is f a.0.0 b.0 b.1 ∙ ap (count_field f) (sym (length_list (data16_at o) b.0 r.0.1 c.0 c.1)) in
    let made : Parts × List ℕ = (record { name_type = t.0.0; realm = r.0.0; components = c.0.0 }, t.0.1) in
    let e3 = Takes-then r.0.1 (flat_map (data16 o) c.0.0) c.0.1 (name_type_field f t.0.0) t.0.1 tc.0 tt.0 in
    let e2 = Takes-then a.0.1 (data16 o r.0.0) r.0.1 (flat_map (data16 o) c.0.0 ++ name_type_field f t.0.0) t.0.1 tr.0 e3 in
    let e1 = Takes-then bytes (digits o w16 a.0.0) a.0.1 (data16 o r.0.0 ++ (flat_map (data16 o) c.0.0 ++ name_type_field f t.0.0)) t.0.1 ta.0 e2 in
    let whole : Takes bytes (kt_principal f made.0) made.1 = subst (λ (n : ℕ). Takes bytes (digits o w16 n ++ (data16 o r.0.0 ++ (flat_map (data16 o) c.0.0 ++ name_type_field f t.0.0))) t.0.1) field e1 in
    let short : count_field f (length c.0.0) < 2 ^ 16 = subst (λ (n : ℕ). n < 2 ^ 16) field ta.1 in
    subst (λ (y : Parts × List ℕ). Takes bytes (kt_principal f y.0) y.1 × FitsKt f y.0) (some_is made x t.2) (whole, record { lengths = lengths_fit f (record { name_type = t.0.0; realm = r.0.0; components = c.0.0 }) (record { count = short; realm = tr.1; components = tc.1 }); name_type = tt.1 })

pub kt_principal_again : (f : KtFormat) (p : Parts) (rest : List ℕ) → FitsKt f p → kt_principal_at f (kt_principal f p ++ rest) ≡ Some (p, rest)
unfolding kt_principal_at components_at
kt_principal_again f p rest fits =
    let o = order_of f in
    let n = length p.components in
    let d0 = digits o w16 (count_field f n) in
    let d1 = data16 o p.realm in
    let d2 = flat_map (data16 o) p.components in
    let d3 = name_type_field f p.name_type in
    let l = lengths_of f p fits.lengths in
    let grouped : kt_principal f p ++ rest ≡ d0 ++ (d1 ++ (d2 ++ (d3 ++ rest))) = append_assoc d0 (d1 ++ (d2 ++ d3)) rest ∙ ap (λ (b : List ℕ). d0 ++ b) (append_assoc d1 (d2 ++ d3) rest ∙ ap (λ (b : List ℕ). d1 ++ b) (append_assoc d2 d3 rest)) in
    ap (kt_principal_at f) grouped ∙ rw (number_again o w16 (2 ^ 16) (wide16 o) (count_field f n) (d1 ++ (d2 ++ (d3 ++ rest))) l.count, count_again f n, data16_again o p.realm (d2 ++ (d3 ++ rest)) l.realm, list_again (data16_field o) p.components (d3 ++ rest) l.components, name_type_again f p.name_type rest fits.name_type) refl

pub no_principal : (f : KtFormat) → kt_principal_at f [] ≡ None
unfolding kt_principal_at
no_principal f = refl

pub kt_principal_field : (f : KtFormat) → IsField (kt_principal_at f) (kt_principal f) (FitsKt f)
kt_principal_field f = record {
  takes = λ bytes x fits e. kt_principal_takes f bytes x fits e;
  again = λ p rest fits. kt_principal_again f p rest fits;
  nonempty = λ p.
      let o = order_of f in
      let tail = data16 o p.realm ++ (flat_map (data16 o) p.components ++ name_type_field f p.name_type) in
      omega (arith, (wide16 o).len (count_field f (length p.components)), length-append (digits o w16 (count_field f (length p.components))) tail);
}

-- ---- a name in a credential cache

pub cc_principal_takes : (bytes : List ℕ) (x : Parts × List ℕ) → IsBytes bytes → cc_principal_at bytes ≡ Some x → Takes bytes (cc_principal x.0) x.1 × FitsCc x.0
unfolding cc_principal_at
cc_principal_takes bytes x fits e =
    let a = bind_some (number_at Big w32 bytes) _ x e in
    let b = bind_some (number_at Big w32 a.0.1) _ x a.2 in
    let r = bind_some (data32_at Big b.0.1) _ x b.2 in
    let c = bind_some (list_at (data32_at Big) b.0.0 r.0.1) _ x r.2 in
    let ta = number_takes Big w32 (2 ^ 32) (wide32 Big) bytes a.0.0 a.0.1 fits a.1 in
    let tb = number_takes Big w32 (2 ^ 32) (wide32 Big) a.0.1 b.0.0 b.0.1 ta.0.rest_fits b.1 in
    let tr = data32_takes Big b.0.1 r.0.0 r.0.1 tb.0.rest_fits r.1 in
    let tc = list_takes (data32_field Big) b.0.0 r.0.1 c.0 tr.0.rest_fits c.1 in
    let count : length c.0.0 ≡ b.0.0 = length_list (data32_at Big) b.0.0 r.0.1 c.0 c.1 in
    let p : Parts = record { name_type = a.0.0; realm = r.0.0; components = c.0.0 } in
    let e3 = Takes-then b.0.1 (data32 Big r.0.0) r.0.1 (flat_map (data32 Big) c.0.0) c.0.1 tr.0 tc.0 in
    let e2 = Takes-then a.0.1 (digits Big w32 b.0.0) b.0.1 (data32 Big r.0.0 ++ flat_map (data32 Big) c.0.0) c.0.1 tb.0 e3 in
    let e1 = Takes-then bytes (digits Big w32 a.0.0) a.0.1 (digits Big w32 b.0.0 ++ (data32 Big r.0.0 ++ flat_map (data32 Big) c.0.0)) c.0.1 ta.0 e2 in
    let whole : Takes bytes (cc_principal p) c.0.1 = subst (λ (n : ℕ). Takes bytes (digits Big w32 a.0.0 ++ (digits Big w32 n ++ (data32 Big r.0.0 ++ flat_map (data32 Big) c.0.0))) c.0.1) (sym count) e1 in
    let fit : FitsCc p = record { name_type = ta.1; count = subst (λ (n : ℕ). n < 2 ^ 32) (sym count) tb.1; realm = tr.1; components = tc.1 } in
    subst (λ (y : Parts × List ℕ). Takes bytes (cc_principal y.0) y.1 × FitsCc y.0) (some_is (p, c.0.1) x c.2) (whole, fit)

pub cc_principal_again : (p : Parts) (rest : List ℕ) → FitsCc p → cc_principal_at (cc_principal p ++ rest) ≡ Some (p, rest)
unfolding cc_principal_at
cc_principal_again p rest fits =
    let d0 = digits Big w32 p.name_type in
    let d1 = digits Big w32 (length p.components) in
    let d2 = data32 Big p.realm in
    let d3 = flat_map (data32 Big) p.components in
    let grouped : cc_principal p ++ rest ≡ d0 ++ (d1 ++ (d2 ++ (d3 ++ rest))) = append_assoc d0 (d1 ++ (d2 ++ d3)) rest ∙ ap (λ (b : List ℕ). d0 ++ b) (append_assoc d1 (d2 ++ d3) rest ∙ ap (λ (b : List ℕ). d1 ++ b) (append_assoc d2 d3 rest)) in
    ap cc_principal_at grouped ∙ rw (number_again Big w32 (2 ^ 32) (wide32 Big) p.name_type (d1 ++ (d2 ++ (d3 ++ rest))) fits.name_type, number_again Big w32 (2 ^ 32) (wide32 Big) (length p.components) (d2 ++ (d3 ++ rest)) fits.count, data32_again Big p.realm (d3 ++ rest) fits.realm, list_again (data32_field Big) p.components rest fits.components) refl

pub no_cc_principal : cc_principal_at [] ≡ None
unfolding cc_principal_at
no_cc_principal = refl

pub cc_principal_field : IsField cc_principal_at cc_principal FitsCc
cc_principal_field = record {
  takes = λ bytes x fits e. cc_principal_takes bytes x fits e;
  again = λ p rest fits. cc_principal_again p rest fits;
  nonempty = λ p.
      let tail = digits Big w32 (length p.components) ++ (data32 Big p.realm ++ flat_map (data32 Big) p.components) in
      omega (arith, (wide32 Big).len p.name_type, length-append (digits Big w32 p.name_type) tail);
}
