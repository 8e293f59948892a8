-- Reading one cell, and all of them.
use Rattle.krb_keytab.proofs.Cited.{◌≡◌, ℕ, ◌-◌, ◌^◌, ◌<◌, ◌≤◌, ◌⊎◌, Bool, true, false, cond, ltb, List, [], ◌∷◌, ◌++◌, length, get_or, take, drop, Option, Some, None, refl, sym, ap, subst, ◌∙◌, append_assoc, arith, inl, inr, is_some, flat_map, AllByRecursion, w32, ltb-false, le-ltb, flat_map-cons, KtFormat, order_of, digits, version_byte, number_at, IsBytes, IsBytes-drop, Takes, Takes-then, wide32, number_takes, Length, entry_at, length_of, field_of, HasField, Cell, Live, Free, End, Contents, bytes_of, length_of_cell, length_field, cell, end_bytes, spelling, short_end, next_of_length, next_by, next, keytab_format, contents, IsCell, IsEnd, IsSound, IsSpelled, image, nat_tests, take_at, drop_at, take-append-drop, length-append, length-take, IsBytes-back, headed}
use Rattle.krb_cells.specs.Contents.{NextCell, More, NoMore, on_next, IsCell as IsReadCell}
use Rattle.krb_cells.proofs.ContentsLemmas.{IsNext as IsNextIn, IsFormat, behind, contents_next as next_of_contents, contents_spelled as spelled_of, contents_behind as behind_of, contents_again as again_of}
use Rattle.krb_keytab.specs.declared.length.Length.TheVariants as says
use Rattle.krb_keytab.proofs.LengthLemmas.{means, length_again, cell_has}

pub chosen : {A : Type 0} (b : Bool) (x y z : A) → cond b x y ≡ z → ((b ≡ true) × (x ≡ z)) ⊎ ((b ≡ false) × (y ≡ z))
chosen b x y z e = search arith

-- what a cell took from the front
pub record TakesCell (f : KtFormat) (bytes : List ℕ) (c : Cell) (after : List ℕ) : Type 0 where
  pub takes : Takes bytes (cell (order_of f) c) after
  pub sound : IsCell f c

-- what is after the cells
pub record IsAtEnd (f : KtFormat) (bytes : List ℕ) (e : End) : Type 0 where
  pub parts : bytes ≡ end_bytes (order_of f) e
  pub sound : IsEnd f e

-- the outcome of one read
abbrev pub IsNext : KtFormat → List ℕ → NextCell Cell End → Type 0
IsNext f bytes (More c after) = TakesCell f bytes c after
IsNext f bytes (NoMore e) = IsAtEnd f bytes e

-- a length, and the bytes of its cell after it
taken : (f : KtFormat) (bytes rest : List ℕ) (c : Cell) (n m : ℕ) → Takes bytes (digits (order_of f) w32 m) rest → bytes_of c ≡ take n rest → m ≡ length_field c → IsCell f c → TakesCell f bytes c (drop n rest)
taken f bytes rest c n m t is field sound = search (arith, Takes, take-append-drop, IsBytes-drop, Takes-then)

live_taken : (f : KtFormat) (bytes : List ℕ) (n : ℕ) (rest : List ℕ) → Takes bytes (digits (order_of f) w32 n) rest → HasField (says.Live n) → n ≤ length rest → is_some (entry_at f (take n rest)) ≡ true
    → TakesCell f bytes (Live (take n rest)) (drop n rest)
live_taken f bytes n rest t has long entry =
    let len : length (take n rest) ≡ n = omega (arith, length-take n rest) in
    taken f bytes rest (Live (take n rest)) n n t refl (sym len) (omega (arith, len, has.0), omega (arith, len, has.1), entry)

free_taken : (f : KtFormat) (bytes : List ℕ) (n : ℕ) (rest : List ℕ) → Takes bytes (digits (order_of f) w32 (2 ^ 32 - n)) rest → HasField (says.Free n) → n ≤ length rest → TakesCell f bytes (Free (take n rest)) (drop n rest)
free_taken f bytes n rest t has long =
    let len : length (take n rest) ≡ n = omega (arith, length-take n rest) in
    taken f bytes rest (Free (take n rest)) n (2 ^ 32 - n) t refl (ap (λ (k : ℕ). 2 ^ 32 - k) (sym len)) (omega (arith, len, has.0), omega (arith, len, has.1))

first_cell_is : (f : KtFormat) (bytes rest : List ℕ) (l : Length) (s : NextCell Cell End) → next f bytes ≡ s → Takes bytes (digits (order_of f) w32 (field_of l)) rest → HasField l → next_of_length f bytes rest l ≡ s → IsNext f bytes s
first_cell_is f bytes rest says.End s whole t has e = subst (IsNext f bytes) e (record { parts = t.parts; sound = tt })
first_cell_is f bytes rest (says.Live n) s whole t has e =
    let P = IsNext f bytes in
    elim (chosen (ltb (length rest) n) _ _ s e) [
      | inl q ↦ subst P q.1 (record { parts = refl; sound = whole ∙ sym q.1 })
      | inr q ↦
          elim (chosen (is_some (entry_at f (take n rest))) _ _ s q.1) [
            | inl r ↦ subst P r.1 (live_taken f bytes n rest t has (ltb-false _ _ q.0) r.0)
            | inr r ↦ subst P r.1 (record { parts = refl; sound = whole ∙ sym r.1 })
          ]
    ]
first_cell_is f bytes rest (says.Free n) s whole t has e =
    let P = IsNext f bytes in
    elim (chosen (ltb (length rest) n) _ _ s e) [
      | inl q ↦ subst P q.1 (record { parts = refl; sound = whole ∙ sym q.1 })
      | inr q ↦ subst P q.1 (free_taken f bytes n rest t has (ltb-false _ _ q.0))
    ]

short_is : (f : KtFormat) (bytes : List ℕ) (s : NextCell Cell End) → next f bytes ≡ s → NoMore (short_end bytes) ≡ s → IsNext f bytes s
short_is f bytes s whole e = search arith

next_by_is : (f : KtFormat) (bytes : List ℕ) (s : NextCell Cell End) (read : Option (ℕ × List ℕ)) → IsBytes bytes → next f bytes ≡ s → number_at (order_of f) w32 bytes ≡ read → next_by f bytes read ≡ s → IsNext f bytes s
next_by_is f bytes s None fits whole got e = short_is f bytes s whole e
next_by_is f bytes s (Some n) fits whole got e =
    let t = number_takes (order_of f) w32 (2 ^ 32) (wide32 (order_of f)) bytes n.0 n.1 fits got in
    let l = length_of n.0 in
    let is = means n.0 l t.1 refl in
    first_cell_is f bytes n.1 l s whole (subst (λ (m : ℕ). Takes bytes (digits (order_of f) w32 m) n.1) (sym is.field) t.0) is.has e

-- what one read returns is what the bytes spell
pub next_is : (f : KtFormat) (bytes : List ℕ) (s : NextCell Cell End) → IsBytes bytes → next f bytes ≡ s → IsNext f bytes s
unfolding next
next_is f bytes s fits e = next_by_is f bytes s (number_at (order_of f) w32 bytes) fits e refl e

-- ---- what is spelled is read

last_again : (f : KtFormat) (c : Cell) (rest bytes : List ℕ) → IsCell f c → next_of_length f bytes (bytes_of c ++ rest) (length_of_cell c) ≡ More c rest
last_again f (Live b) rest bytes sound = search (arith, le-ltb, length-append, take_at, drop_at)
last_again f (Free b) rest bytes sound = search (arith, le-ltb, length-append, take_at, drop_at)

-- the number before a cell
pub field_again : (f : KtFormat) (c : Cell) (rest : List ℕ) → IsCell f c → number_at (order_of f) w32 (cell (order_of f) c ++ rest) ≡ Some (length_field c, bytes_of c ++ rest)
field_again f c rest sound = grind (arith, nat_tests)

pub cell_again : (f : KtFormat) (c : Cell) (rest : List ℕ) → IsCell f c → next f (cell (order_of f) c ++ rest) ≡ More c rest
unfolding next
cell_again f c rest sound = search (arith, field_again, length_again, cell_has, last_again)

end_again : (f : KtFormat) (e : End) → IsEnd f e → next f (end_bytes (order_of f) e) ≡ NoMore e
unfolding next
end_again f e sound = grind (arith, nat_tests)

-- ---- all cells

pub sound_size : (f : KtFormat) (c : Cell) → IsCell f c → 0 < length (bytes_of c)
sound_size f c h = search arith

-- ---- the format of any cells

read_cells : (f : KtFormat) (cs : List Cell) → AllByRecursion (IsCell f) cs → AllByRecursion (IsReadCell (keytab_format f)) cs
read_cells f [] sound = tt
read_cells f (c ∷ cs) sound = search (arith, cell_again, length-append, wide32, read_cells f cs sound.1)

next_in : (f : KtFormat) (bytes : List ℕ) (s : NextCell Cell End) → IsNext f bytes s → IsNextIn (keytab_format f) bytes s
next_in f bytes s t = search (arith, end_again, cell_again, length-append, wide32)

-- its reader reads what is spelled
pub keytab_is : (f : KtFormat) → IsFormat (keytab_format f)
keytab_is f bytes fits = next_in f bytes (next f bytes) (next_is f bytes (next f bytes) fits refl)

-- the first cell, and the others
pub contents_next : (f : KtFormat) (bytes : List ℕ) (s : NextCell Cell End) → IsBytes bytes → next f bytes ≡ s → contents f bytes ≡ on_next (contents f) s
unfolding contents
contents_next f bytes s fits e = next_of_contents (keytab_format f) bytes s (keytab_is f) fits e

-- cells that are read are sound
sound_cells : (f : KtFormat) (cs : List Cell) (rest : List ℕ) → AllByRecursion (IsReadCell (keytab_format f)) cs → IsBytes (flat_map (cell (order_of f)) cs ++ rest) → AllByRecursion (IsCell f) cs
sound_cells f [] rest read fits = tt
sound_cells f (c ∷ cs) rest read fits =
    let o = order_of f in
    let tail = flat_map (cell o) cs ++ rest in
    let grouped : flat_map (cell o) (c ∷ cs) ++ rest ≡ cell o c ++ tail = ap (λ (b : List ℕ). b ++ rest) (flat_map-cons (cell o) c cs) ∙ append_assoc (cell o c) (flat_map (cell o) cs) rest in
    let fits2 : IsBytes (cell o c ++ tail) = subst IsBytes grouped fits in
    ((next_is f (cell o c ++ tail) (More c tail) fits2 (read.0.read tail)).sound, sound_cells f cs rest read.1 (IsBytes-back (cell o c) tail fits2))

sound_end : (f : KtFormat) (e : End) → next f (end_bytes (order_of f) e) ≡ NoMore e → IsEnd f e
sound_end f e read = search arith

-- the contents spell the bytes
pub contents_spelled : (f : KtFormat) (bytes : List ℕ) → IsBytes bytes → IsSpelled f bytes (contents f bytes)
unfolding contents
contents_spelled f bytes fits =
    let k = contents f bytes in
    let s = spelled_of (keytab_format f) bytes (keytab_is f) fits in
    search (arith, sound_cells, IsBytes, sound_end, s, k)

-- sound cells that are a prefix are the first cells: so the list is the longest one
pub contents_behind : (f : KtFormat) (cs : List Cell) (rest : List ℕ) → AllByRecursion (IsCell f) cs → IsBytes (flat_map (cell (order_of f)) cs ++ rest) → contents f (flat_map (cell (order_of f)) cs ++ rest) ≡ behind cs (contents f rest)
unfolding contents
contents_behind f cs rest sound fits = behind_of (keytab_format f) cs rest (keytab_is f) (read_cells f cs sound) fits

-- what is spelled is read
pub contents_again : (f : KtFormat) (k : Contents) → IsSound f k → IsBytes (spelling (order_of f) k) → contents f (spelling (order_of f) k) ≡ k
unfolding contents
contents_again f k sound fits = again_of (keytab_format f) k (keytab_is f) (record { cells = read_cells f k.cells sound.cells; end = end_again f k.end sound.end }) fits

-- the image is what its contents spell
pub image_is : (f : KtFormat) (bytes : List ℕ) → IsBytes bytes → 2 ≤ length bytes → get_or bytes 0 0 ≡ 5 → get_or bytes 1 0 ≡ version_byte f → bytes ≡ image f (contents f (drop 2 bytes))
image_is f bytes fits le first second =
    let h = contents_spelled f (drop 2 bytes) (IsBytes-drop 2 bytes fits) in
    headed bytes le ∙ ap (λ (a : ℕ). a ∷ get_or bytes 1 0 ∷ drop 2 bytes) first ∙ ap (λ (b : ℕ). 5 ∷ b ∷ drop 2 bytes) second ∙ ap (λ (r : List ℕ). 5 ∷ version_byte f ∷ r) h.parts
