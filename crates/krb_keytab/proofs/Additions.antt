-- The result of an addition, by the image that is kept.
use Rattle.krb_keytab.proofs.Cited.{◌≡◌, ℕ, ◌+◌, ◌<◌, ◌≤◌, Bool, true, false, cond, ltb, List, [], ◌∷◌, ◌++◌, length, drop, None, Ok, Err, sym, ap, ◌∙◌, length-append, arith, flat_map, lt-ltb, le-ltb, length-replicate, KtFormat, order_of, end_of, fault_of, CellsEnd, Live, Contents, cell, end_bytes, contents, image, kind_of, ends, IsKnownEnd, mark_len, len_with, KeytabState, image_of, store_of, end_place, with_last, end_after, append_result, nat_tests}
use Rattle.krb_walk.specs.declared.refusal.Code.TheVariants as code
use Rattle.krb_keytab.proofs.Cuts.{end_place_is, end_place-append}
use Rattle.krb_keytab.proofs.Stores.{keytab_of, end_held}
use Rattle.krb_keytab.proofs.AppendLemmas.{zeros_after}

-- the length of the image with one more record
last_len : (f : KtFormat) (limit : ℕ) (bytes x : List ℕ) (e : CellsEnd) → IsKnownEnd f bytes e → kind_of (contents f (drop 2 bytes)).end ≡ None → length (image_of (with_last (keytab_of f limit bytes) x)) ≡ len_with e (length x)
last_len f limit bytes x e known whole =
    let o = order_of f in
    let k = contents f (drop 2 bytes) in
    let cells = k.cells ++ Live x ∷ [] in
    let t = end_bytes o (end_after k.end) in
    let was : k.end ≡ ends (drop e.place bytes) e.ending = known.same ∙ ap (λ (y : Contents). y.end) known.ending in
    let mark : length t ≡ mark_len e.ending = ap length (sym (zeros_after o e.ending k.end (drop e.place bytes) was whole)) ∙ length-replicate {A = ℕ} (mark_len e.ending) 0 in
    let place : end_place 2 cells ≡ e.place + (4 + length x) = end_place-append 2 k.cells (Live x ∷ []) ∙ ap (λ (n : ℕ). n + (4 + length x)) known.place in
    omega (arith, mark, place, end_place_is o 2 cells, length-append (flat_map (cell o) cells) t)

-- a keytab that is kept, and the record that is added after its cells
pub record Appends (f : KtFormat) (limit : ℕ) (bytes x : List ℕ) (k : KeytabState) (e : CellsEnd) (n : ℕ) : Type 0 where
  pub known : IsKnownEnd f bytes e
  pub is : keytab_of f limit bytes ≡ k
  pub whole : kind_of (contents f (drop 2 bytes)).end ≡ None
  pub len : n ≡ len_with e (length x)

pub appends : (f : KtFormat) (limit : ℕ) (bytes x : List ℕ) (k : KeytabState) (e : CellsEnd) (n need : ℕ) → IsKnownEnd f bytes e → keytab_of f limit bytes ≡ k → fault_of (store_of k) ≡ None → n ≡ len_with e need → need ≡ length x → Appends f limit bytes x k e n
appends f limit bytes x k e n need known is whole len is_need = grind (arith, nat_tests)

pub same_len : (f : KtFormat) (limit : ℕ) (bytes x : List ℕ) (k : KeytabState) (e : CellsEnd) (n : ℕ) → Appends f limit bytes x k e n → length (image_of (with_last k x)) ≡ n
same_len f limit bytes x k e n a = ap (λ (y : KeytabState). length (image_of (with_last y x))) (sym a.is) ∙ last_len f limit bytes x e a.known a.whole ∙ sym a.len

same_limit : (f : KtFormat) (limit : ℕ) (bytes x : List ℕ) (k : KeytabState) (e : CellsEnd) (n : ℕ) → Appends f limit bytes x k e n → k.limit ≡ limit
same_limit f limit bytes x k e n a = ap (λ (y : KeytabState). y.limit) (sym a.is)

pub append_full : (f : KtFormat) (limit : ℕ) (bytes x : List ℕ) (k : KeytabState) (e : CellsEnd) (n : ℕ) → Appends f limit bytes x k e n → limit < n → append_result k x ≡ Err code.Full
append_full f limit bytes x k e n a lt =
    let long : ltb k.limit (length (image_of (with_last k x))) ≡ true = lt-ltb _ _ (omega (arith, same_len f limit bytes x k e n a, same_limit f limit bytes x k e n a)) in
    ap (λ (b : Bool). cond b (Err code.Full) (Ok (end_of (store_of k), with_last k x))) long

pub append_fits : (f : KtFormat) (limit : ℕ) (bytes x : List ℕ) (k : KeytabState) (e : CellsEnd) (n : ℕ) → Appends f limit bytes x k e n → n ≤ limit → append_result k x ≡ Ok (end_of (store_of k), with_last k x)
append_fits f limit bytes x k e n a le =
    let short : ltb k.limit (length (image_of (with_last k x))) ≡ false = le-ltb _ _ (omega (arith, same_len f limit bytes x k e n a, same_limit f limit bytes x k e n a)) in
    ap (λ (b : Bool). cond b (Err code.Full) (Ok (end_of (store_of k), with_last k x))) short

-- the image that was written, as a keytab
appended_state : (f : KtFormat) (limit : ℕ) (bytes bytes' x : List ℕ) (k : KeytabState) → keytab_of f limit bytes ≡ k
    → contents f (drop 2 bytes') ≡ record { cells = (contents f (drop 2 bytes)).cells ++ Live x ∷ []; end = end_after (contents f (drop 2 bytes)).end } → keytab_of f limit bytes' ≡ with_last k x
appended_state f limit bytes bytes' x k is written = search arith

pub append_ok : (f : KtFormat) (limit : ℕ) (bytes bytes' x : List ℕ) (k : KeytabState) (e : CellsEnd) (n : ℕ) → Appends f limit bytes x k e n → n ≤ limit
    → contents f (drop 2 bytes') ≡ record { cells = (contents f (drop 2 bytes)).cells ++ Live x ∷ []; end = end_after (contents f (drop 2 bytes)).end }
    → append_result k x ≡ Ok (e.place, keytab_of f limit bytes')
append_ok f limit bytes bytes' x k e n a le written =
    append_fits f limit bytes x k e n a le
    ∙ sym (ap (λ (p : ℕ). Ok (p, keytab_of f limit bytes')) (end_held f limit bytes k e a.known a.is) ∙ ap (λ (y : KeytabState). Ok (end_of (store_of k), y)) (appended_state f limit bytes bytes' x k a.is written))

-- the length of the image before and after
pub append_longer : (f : KtFormat) (limit : ℕ) (bytes x : List ℕ) (k : KeytabState) (e : CellsEnd) (n : ℕ) → Appends f limit bytes x k e n → bytes ≡ image f (contents f (drop 2 bytes)) → length bytes < n → length (image_of k) < length (image_of (with_last k x))
append_longer f limit bytes x k e n a spelled lt =
    let was : length (image_of k) ≡ length bytes = ap (λ (y : KeytabState). length (image_of y)) (sym a.is) ∙ ap length (sym spelled) in
    omega (arith, was, same_len f limit bytes x k e n a)

pub append_no_longer : (f : KtFormat) (limit : ℕ) (bytes x : List ℕ) (k : KeytabState) (e : CellsEnd) (n : ℕ) → Appends f limit bytes x k e n → bytes ≡ image f (contents f (drop 2 bytes)) → length (image_of (with_last k x)) ≤ length (image_of k) → n ≤ length bytes
append_no_longer f limit bytes x k e n a spelled le =
    let was : length (image_of k) ≡ length bytes = ap (λ (y : KeytabState). length (image_of y)) (sym a.is) ∙ ap length (sym spelled) in
    omega (arith, was, le, same_len f limit bytes x k e n a)
