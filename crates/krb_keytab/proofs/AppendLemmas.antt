-- An image after a record is added after its cells.
use Rattle.krb_keytab.proofs.Cited.{◌≡◌, ℕ, ◌+◌, ◌-◌, ◌^◌, ◌<◌, ◌≤◌, List, [], ◌∷◌, ◌++◌, length, take, drop, replicate, None, sym, ap, subst, ◌∙◌, append_assoc, length-append, arith, IsSome, flat_map, splice, append-nil, take_at, drop_at, take-append-drop, length-take, drop_all, Order, KtFormat, order_of, IsBytes, IsBytes-drop, CellsEnd, Ending, entry_at, Live, End, Contents, cell, end_bytes, spelling, contents, IsCell, IsEnd, IsSound, kind_of, ends, IsKnownEnd, IsChanged, mark_len, len_with, end_place, IsRecord, end_after, flat_map-append, all_join}
use Rattle.krb_keytab.proofs.CellLemmas.{contents_spelled, contents_again}
use Rattle.krb_keytab.proofs.Cuts.{cell_len, end_place_is, end_place-append}

-- ---- what ends the cells

after_sound : (f : KtFormat) (e : End) → IsEnd f e → kind_of e ≡ None → IsEnd f (end_after e)
after_sound f e h whole = search arith

-- after an appended record come zeros, as many as an end mark has
pub zeros_after : (o : Order) (e : Ending) (k : End) (bytes : List ℕ) → k ≡ ends bytes e → kind_of k ≡ None → replicate {A = ℕ} (mark_len e) 0 ≡ end_bytes o (end_after k)
zeros_after o e k bytes is whole = search arith

-- and they are what ended the cells before, without bytes after it
ends_after : (o : Order) (e : Ending) (k : End) (bytes : List ℕ) → k ≡ ends bytes e → kind_of k ≡ None → ends (end_bytes o (end_after k)) e ≡ end_after k
ends_after o e k bytes is whole = search arith

-- ---- the image

-- the bytes that were written from the place on
behind_all : (mid image' : List ℕ) (at : ℕ) (bytes : List ℕ) → image' ≡ splice mid at (length mid) bytes → image' ≡ take at mid ++ bytes
behind_all mid image' at bytes written = written ∙ ap (λ (b : List ℕ). take at mid ++ (bytes ++ b)) (drop_all (length mid) mid (omega arith)) ∙ ap (λ (b : List ℕ). take at mid ++ b) (append-nil bytes)

-- a record after the cells, and the same end
with_one : (f : KtFormat) (k : Contents) (x : List ℕ) → spelling (order_of f) (record { cells = k.cells ++ Live x ∷ []; end = end_after k.end }) ≡ flat_map (cell (order_of f)) k.cells ++ (cell (order_of f) (Live x) ++ end_bytes (order_of f) (end_after k.end))
with_one f k x = search (arith, end_after, append-nil, flat_map-append, append_assoc)

-- what is known of the end, if the image ends with these bytes
known_after : (f : KtFormat) (image' front : List ℕ) (k : Contents) (x : List ℕ) (e : CellsEnd) (bytes : List ℕ) → IsBytes image' → IsEnd f k.end → kind_of k.end ≡ None → end_place 2 k.cells ≡ e.place → k.end ≡ ends bytes e.ending
    → image' ≡ front ++ end_bytes (order_of f) (end_after k.end) → length front ≡ e.place + 4 + length x → contents f (drop 2 image') ≡ record { cells = k.cells ++ Live x ∷ []; end = end_after k.end }
    → IsKnownEnd f image' (record { place = e.place + 4 + length x; ending = e.ending })
known_after f image' front k x e bytes fits sound whole place was parts len is =
    let o = order_of f in
    let t = end_bytes o (end_after k.end) in
    let there : drop (e.place + 4 + length x) image' ≡ t = ap (drop (e.place + 4 + length x)) parts ∙ drop_at front t (e.place + 4 + length x) len in
    let ended : Contents = record { cells = []; end = end_after k.end } in
    let again : contents f t ≡ ended = contents_again f ended (record { cells = tt; end = after_sound f k.end sound whole }) (subst IsBytes there (IsBytes-drop (e.place + 4 + length x) image' fits)) in
    let all : length image' ≡ length front + length t = ap length parts ∙ length-append front t in
    record {
      place = ap (λ (y : Contents). end_place 2 y.cells) is ∙ end_place-append 2 k.cells (Live x ∷ []) ∙ omega (arith, place);
      within = omega (arith, all, len);
      same = ap (λ (y : Contents). y.end) is ∙ sym (ap (λ (b : List ℕ). (contents f b).end) there ∙ ap (λ (y : Contents). y.end) again);
      ending = ap (contents f) there ∙ again ∙ ap (λ (y : End). record { cells = []; end = y }) (sym (ap (λ (b : List ℕ). ends b e.ending) there ∙ ends_after o e.ending k.end bytes was whole));
    }

-- a record after the cells
pub appended_is : (f : KtFormat) (image mid image' x : List ℕ) (e : CellsEnd) → 2 ≤ length image → 0 < length x → length x < 2 ^ 31 → IsBytes image → IsBytes image' → IsKnownEnd f image e → IsRecord f x → kind_of (contents f (drop 2 image)).end ≡ None
    → take e.place mid ≡ take e.place image → length mid ≡ len_with e (length x)
    → image' ≡ splice mid e.place (length mid) (cell (order_of f) (Live x) ++ replicate {A = ℕ} (length mid - (e.place + 4 + length x)) 0)
    → IsChanged f image image' (record { cells = (contents f (drop 2 image)).cells ++ Live x ∷ []; end = end_after (contents f (drop 2 image)).end }) (record { place = e.place + 4 + length x; ending = e.ending })
appended_is f image mid image' x e long some small fits fits' known entry whole same_front is_len written =
    let o = order_of f in
    let k = contents f (drop 2 image) in
    let F = flat_map (cell o) k.cells in
    let spelled = contents_spelled f (drop 2 image) (IsBytes-drop 2 image fits) in
    let new : Contents = record { cells = k.cells ++ Live x ∷ []; end = end_after k.end } in
    let was : k.end ≡ ends (drop e.place image) e.ending = known.same ∙ ap (λ (y : Contents). y.end) known.ending in
    let n : length mid - (e.place + 4 + length x) ≡ mark_len e.ending = omega (arith, is_len) in
    let zeros : replicate {A = ℕ} (length mid - (e.place + 4 + length x)) 0 ≡ end_bytes o (end_after k.end) = ap (λ (m : ℕ). replicate {A = ℕ} m 0) n ∙ zeros_after o e.ending k.end (drop e.place image) was whole in
    let two : length (take 2 image) ≡ 2 = omega (arith, length-take 2 image) in
    let split : image ≡ (take 2 image ++ F) ++ end_bytes o k.end = sym (take-append-drop 2 image) ∙ ap (λ (b : List ℕ). take 2 image ++ b) spelled.parts ∙ sym (append_assoc (take 2 image) F (end_bytes o k.end)) in
    let place : length (take 2 image ++ F) ≡ e.place = omega (arith, known.place, end_place_is o 2 k.cells, two, length-append (take 2 image) F) in
    let front : take e.place image ≡ take 2 image ++ F = ap (take e.place) split ∙ take_at (take 2 image ++ F) (end_bytes o k.end) e.place place in
    let put : image' ≡ (take 2 image ++ F) ++ (cell o (Live x) ++ end_bytes o (end_after k.end)) =
    behind_all mid image' e.place (cell o (Live x) ++ replicate {A = ℕ} (length mid - (e.place + 4 + length x)) 0) written
    ∙ ap (λ (b : List ℕ). b ++ (cell o (Live x) ++ replicate {A = ℕ} (length mid - (e.place + 4 + length x)) 0)) (same_front ∙ front)
    ∙ ap (λ (b : List ℕ). (take 2 image ++ F) ++ (cell o (Live x) ++ b)) zeros in
    let bytes : image' ≡ take 2 image ++ spelling o new = put ∙ append_assoc (take 2 image) F (cell o (Live x) ++ end_bytes o (end_after k.end)) ∙ ap (λ (b : List ℕ). take 2 image ++ b) (sym (with_one f k x)) in
    let body : drop 2 image' ≡ spelling o new = ap (drop 2) bytes ∙ drop_at (take 2 image) (spelling o new) 2 two in
    let is_live : IsCell f (Live x) = (some, small, subst (λ (b : List ℕ). IsSome (entry_at f b)) (append-nil x) (entry 0)) in
    let sound : IsSound f new = record { cells = all_join (IsCell f) k.cells (Live x ∷ []) spelled.sound.cells (is_live, tt); end = after_sound f k.end spelled.sound.end whole } in
    let is : contents f (drop 2 image') ≡ new = ap (contents f) body ∙ contents_again f new sound (subst IsBytes body (IsBytes-drop 2 image' fits')) in
    let head = (take 2 image ++ F) ++ cell o (Live x) in
    let grouped : image' ≡ head ++ end_bytes o (end_after k.end) = put ∙ sym (append_assoc (take 2 image ++ F) (cell o (Live x)) (end_bytes o (end_after k.end))) in
    let head_len : length head ≡ e.place + 4 + length x = omega (arith, length-append (take 2 image ++ F) (cell o (Live x)), place, cell_len o (Live x)) in
    record {
      head = ap (take 2) bytes ∙ take_at (take 2 image) (spelling o new) 2 two;
      contents = is;
      known = known_after f image' head k x e (drop e.place image) fits' spelled.sound.end whole known.place was grouped head_len is;
    }
