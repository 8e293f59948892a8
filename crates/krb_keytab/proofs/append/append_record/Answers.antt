use Rattle.krb_keytab.proofs.Cited.{◌≡◌, ◌<◌, ◌∙◌, ◌+◌, ◌++◌, ◌∷◌, [], ℕ, List, length, get_or, drop, ap, sym, subst, arith, inl, inr, cases_lt, get_or_past, IsBytes, Live, contents, IsChanged, len_with, end_after}
use Rattle.krb_keytab.proofs.AppendLemmas.{appended_is}
use Rattle.krb_keytab.proofs.append.append_record.Goals as goal

-- the numbers of a `Vec` of bytes are bytes
bytes_of : (xs : List ℕ) → ((i d : ℕ) → i < length xs → get_or xs i d < 256) → IsBytes xs
bytes_of xs h i = elim (cases_lt i (length xs)) [
  | inl lt ↦ h i 0 lt
  | inr le ↦ rw (get_or_past xs i 0 le) (omega arith)
]

pub returns-clause-changed : goal.returns-clause-changed
returns-clause-changed g c =
    let f = c.args.form.now.format in
    let x = c.args.form.now.bytes in
    let e = c.args.end in
    let old = c.args.image.now.items in
    let k = contents f (drop 2 old) in
    let need = c.len-need.ensures in
    let small = need.small in
    let room = c.requires.room in
    let set = c.in_ok-set_len.ensures in
    let fits : IsBytes old = rw c.deref.ensures.value at c.bytes_fit.ensures in
    let items : length c.set_len.new.image.items ≡ c.set_len.new.image.len = let ok = c.set_len.new.image.ok.0 in omega arith in
    let is_len : length c.set_len.new.image.items ≡ len_with e (length x) = items ∙ set.len ∙ c.len_with.ensures ∙ ap (λ (n : ℕ). len_with e n) need.len in
    let done = appended_is f old c.set_len.new.image.items c.put_after.new.image.items x e (let ok = c.args.image.now.ok.0 in let long = c.requires.long in omega arith) (let n = need.len in let some = need.some in omega arith) (omega (arith, room)) fits (bytes_of c.put_after.new.image.items c.type_inv.image) c.requires.known need.record c.requires.whole set.ok is_len c.put_after.ensures.written in
    subst (λ (n : ℕ). IsChanged f old c.put_after.new.image.items (record { cells = k.cells ++ Live x ∷ []; end = end_after k.end }) (record { place = e.place + 4 + n; ending = e.ending })) (sym need.len) done
