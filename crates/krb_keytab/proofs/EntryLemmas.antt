-- An entry that is read is one that the bytes spell, and the only one.
use Rattle.krb_keytab.proofs.Cited.{◌≡◌, ℕ, ◌^◌, List, [], ◌∷◌, ◌++◌, Option, Some, sym, subst, append_assoc, IfSome, w16, w32, KtFormat, order_of, digits, data16, kt_principal, byte_at, ◌>>=◌, Gives, number_at, data16_at, kt_principal_at, IsBytes, bind_some, some_is, Takes, Takes-then, wide16, wide32, number_takes, number_again, data16_takes, data16_again, EntryParts, Front, front, FitsFront, entry_of, Spells, front_at, entry_at, arith, kt_principal_takes, kt_principal_again, byte_takes}

front_takes : (f : KtFormat) (bytes : List ℕ) (x : Front × List ℕ) → IsBytes bytes → front_at f bytes ≡ Some x → Takes bytes (front f x.0) x.1 × FitsFront f x.0
unfolding front_at
front_takes f bytes x fits e =
    let o = order_of f in
    let a = bind_some (kt_principal_at f bytes) (λ principal. number_at o w32 principal.1 >>= λ timestamp. byte_at timestamp.1 >>= λ version. number_at o w16 version.1 >>= λ enctype. data16_at o enctype.1 >>= λ key. Some (record { principal = principal.0; timestamp = timestamp.0; low_version = version.0; enctype = enctype.0; key = key.0 }, key.1)) x e in
    let b = bind_some (number_at o w32 a.0.1) (λ timestamp. byte_at timestamp.1 >>= λ version. number_at o w16 version.1 >>= λ enctype. data16_at o enctype.1 >>= λ key. Some (record { principal = a.0.0; timestamp = timestamp.0; low_version = version.0; enctype = enctype.0; key = key.0 }, key.1)) x a.2 in
    let c = bind_some (byte_at b.0.1) (λ version. number_at o w16 version.1 >>= λ enctype. data16_at o enctype.1 >>= λ key. Some (record { principal = a.0.0; timestamp = b.0.0; low_version = version.0; enctype = enctype.0; key = key.0 }, key.1)) x b.2 in
    let d = bind_some (number_at o w16 c.0.1) (λ enctype. data16_at o enctype.1 >>= λ key. Some (record { principal = a.0.0; timestamp = b.0.0; low_version = c.0.0; enctype = enctype.0; key = key.0 }, key.1)) x c.2 in
    let k = bind_some (data16_at o d.0.1) (λ key. Some (record { principal = a.0.0; timestamp = b.0.0; low_version = c.0.0; enctype = d.0.0; key = key.0 }, key.1)) x d.2 in
    let ta = kt_principal_takes f bytes a.0 fits a.1 in
    let tb = number_takes o w32 (2 ^ 32) (wide32 o) a.0.1 b.0.0 b.0.1 ta.0.rest_fits b.1 in
    let tc = byte_takes b.0.1 c.0 tb.0.rest_fits c.1 in
    let td = number_takes o w16 (2 ^ 16) (wide16 o) c.0.1 d.0.0 d.0.1 tc.0.rest_fits d.1 in
    let tk = data16_takes o d.0.1 k.0.0 k.0.1 td.0.rest_fits k.1 in
    let e4 = Takes-then c.0.1 (digits o w16 d.0.0) d.0.1 (data16 o k.0.0) k.0.1 td.0 tk.0 in
    let e3 = Takes-then b.0.1 (c.0.0 ∷ []) c.0.1 (digits o w16 d.0.0 ++ data16 o k.0.0) k.0.1 tc.0 e4 in
    let e2 = Takes-then a.0.1 (digits o w32 b.0.0) b.0.1 ((c.0.0 ∷ []) ++ (digits o w16 d.0.0 ++ data16 o k.0.0)) k.0.1 tb.0 e3 in
    let e1 = Takes-then bytes (kt_principal f a.0.0) a.0.1 (digits o w32 b.0.0 ++ ((c.0.0 ∷ []) ++ (digits o w16 d.0.0 ++ data16 o k.0.0))) k.0.1 ta.0 e2 in
    let made : Front × List ℕ = (record { principal = a.0.0; timestamp = b.0.0; low_version = c.0.0; enctype = d.0.0; key = k.0.0 }, k.0.1) in
    subst (λ (y : Front × List ℕ). Takes bytes (front f y.0) y.1 × FitsFront f y.0) {x = made} (some_is made x k.2)
    (e1, record { principal = ta.1; timestamp = tb.1; low_version = tc.1; enctype = td.1; key = tk.1 })

front_again : (f : KtFormat) (x : Front) (rest : List ℕ) → FitsFront f x → front_at f (front f x ++ rest) ≡ Some (x, rest)
unfolding front_at
front_again f x rest fits = search (arith, append_assoc, kt_principal_again, number_again, wide32, wide16, data16_again)

pub entry_spelled : (f : KtFormat) (bytes : List ℕ) (e : EntryParts) → IsBytes bytes → entry_at f bytes ≡ Some e → Spells f e bytes
unfolding entry_at
entry_spelled f bytes e fits h =
    let a = bind_some (front_at f bytes) (λ x. Some (entry_of f x.0 x.1)) e h in
    let t = front_takes f bytes a.0 fits a.1 in
    record { fields = a.0.0; tail = a.0.1; fit = t.1; parts = t.0.parts; entry = sym (some_is (entry_of f a.0.0 a.0.1) e a.2) }

pub entry_again : (f : KtFormat) (e : EntryParts) (bytes : List ℕ) → Spells f e bytes → entry_at f bytes ≡ Some e
unfolding entry_at
entry_again f e bytes s = search (arith, front_again)

pub found_entry : {X : Type 0} (view : X → EntryParts) (f : KtFormat) (bytes : List ℕ) (result : Option X) → IsBytes bytes → Gives view result (entry_at f bytes) → IfSome result (λ x. Spells f (view x) bytes)
found_entry view f bytes result fits h = search (arith, entry_spelled)

pub only_entry : {X : Type 0} (view : X → EntryParts) (f : KtFormat) (bytes : List ℕ) (result : Option X) → Gives view result (entry_at f bytes) → (e : EntryParts) → Spells f e bytes → Gives view result (Some e)
only_entry view f bytes result h e s = subst (Gives view result) (entry_again f e bytes s) h
