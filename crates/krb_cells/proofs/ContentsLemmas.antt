-- Unique reading: in any format, bytes have one list of cells and one end.
use Rattle.krb_cells.proofs.Cited.{◌≡◌, ℕ, zero, suc, ◌+◌, ◌<◌, List, [], ◌∷◌, ◌++◌, length, Option, Some, None, refl, sym, ap, subst, ◌∙◌, append_assoc, arith, flat_map, AllByRecursion, IsBytes, Takes}
use Rattle.std.proofs.lemmas.List.{append-nil, length-append}
use Rattle.std.proofs.lemmas.List.Concat.{flat_map-cons}
use Rattle.krb_wire.proofs.Places.{IsField}
use Rattle.krb_cells.specs.Contents.{NextCell, More, NoMore, Contents, Format, spelling, on_next, first_cells, contents, IsCell, IsEnd, IsSound, IsSpelled, next_by, unframed}
use Rattle.krb_wire.proofs.Fields.{IsBytes-back}

-- what one read gives: a cell and the bytes after it, or the end
abbrev pub IsNext : {C E : Type 0} → Format C E → List ℕ → NextCell C E → Type 0
IsNext f bytes (More c after) = Takes bytes (f.cell c) after × IsCell f c
IsNext f bytes (NoMore e) = (bytes ≡ f.end_bytes e) × IsEnd f e

-- a format whose reader is right: it reads a cell, or the end, that the bytes spell
abbrev pub IsFormat : {C E : Type 0} → Format C E → Type 0
IsFormat f = (bytes : List ℕ) → IsBytes bytes → IsNext f bytes (f.next bytes)

shorter : {C E : Type 0} (f : Format C E) (bytes : List ℕ) (c : C) (after : List ℕ) → Takes bytes (f.cell c) after → IsCell f c → length after < length bytes
shorter f bytes c after t is = let some = is.some in omega (arith, ap length t.parts, length-append (f.cell c) after, some)

enough_by : {C E : Type 0} (f : Format C E) (n m : ℕ) (bytes : List ℕ) (s : NextCell C E) → ((after : List ℕ) → IsBytes after → length after < n → length after < m → first_cells f n after ≡ first_cells f m after)
    → length bytes < suc n → length bytes < suc m → IsNext f bytes s → on_next (first_cells f n) s ≡ on_next (first_cells f m) s
enough_by {C = C} {E = E} f n m bytes (More c after) ih hn hm t = search (arith, shorter)
enough_by f n m bytes (NoMore e) ih hn hm t = refl

-- with more turns than bytes, the contents do not depend on their number
enough : {C E : Type 0} (f : Format C E) (n m : ℕ) (bytes : List ℕ) → IsFormat f → IsBytes bytes → length bytes < n → length bytes < m → first_cells f n bytes ≡ first_cells f m bytes
unfolding first_cells
enough f zero m bytes is fits hn hm = absurd (omega arith)
enough f (suc n) zero bytes is fits hn hm = absurd (omega arith)
enough f (suc n) (suc m) bytes is fits hn hm =
    enough_by f n m bytes (f.next bytes) (λ after after_fits an am. enough f n m after is after_fits an am) hn hm (is bytes fits)

contents_by : {C E : Type 0} (f : Format C E) (bytes : List ℕ) (s : NextCell C E) → IsFormat f → IsNext f bytes s → on_next (first_cells f (length bytes)) s ≡ on_next (contents f) s
unfolding contents
contents_by {C = C} {E = E} f bytes (More c after) is t = search (arith, shorter, enough)
contents_by f bytes (NoMore e) is t = refl

next_first : {C E : Type 0} (f : Format C E) (bytes : List ℕ) → contents f bytes ≡ on_next (first_cells f (length bytes)) (f.next bytes)
unfolding contents first_cells
next_first f bytes = refl

-- contents are the first cell and the contents of the rest
pub contents_next : {C E : Type 0} (f : Format C E) (bytes : List ℕ) (s : NextCell C E) → IsFormat f → IsBytes bytes → f.next bytes ≡ s → contents f bytes ≡ on_next (contents f) s
contents_next f bytes s is fits e = search (arith, next_first, contents_by)

spelled_by : {C E : Type 0} (f : Format C E) (n : ℕ) (bytes : List ℕ) (s : NextCell C E) → ((after : List ℕ) → IsBytes after → length after < n → IsSpelled f after (contents f after))
    → length bytes < suc n → IsNext f bytes s → IsSpelled f bytes (on_next (contents f) s)
spelled_by f n bytes (More c after) ih lt t = search (arith, shorter, flat_map-cons, append_assoc)
spelled_by f n bytes (NoMore e) ih lt t = record { parts = t.0; sound = record { cells = tt; end = t.1 } }

spelled_within : {C E : Type 0} (f : Format C E) (n : ℕ) (bytes : List ℕ) → IsFormat f → IsBytes bytes → length bytes < n → IsSpelled f bytes (contents f bytes)
spelled_within f zero bytes is fits lt = absurd (omega arith)
spelled_within f (suc n) bytes is fits lt =
    subst (IsSpelled f bytes) (sym (contents_next f bytes (f.next bytes) is fits refl)) (spelled_by f n bytes (f.next bytes) (λ after after_fits an. spelled_within f n after is after_fits an) lt (is bytes fits))

-- the contents spell the bytes
pub contents_spelled : {C E : Type 0} (f : Format C E) (bytes : List ℕ) → IsFormat f → IsBytes bytes → IsSpelled f bytes (contents f bytes)
contents_spelled f bytes is fits = spelled_within f (suc (length bytes)) bytes is fits (omega arith)

-- contents with some cells before them
abbrev pub behind : {C E : Type 0} → List C → Contents C E → Contents C E
behind cs k = record { cells = cs ++ k.cells; end = k.end }

-- sound cells that bytes begin with are the first cells read: so the list is the longest one
pub contents_behind : {C E : Type 0} (f : Format C E) (cs : List C) (rest : List ℕ) → IsFormat f → AllByRecursion (IsCell f) cs → IsBytes (flat_map f.cell cs ++ rest) → contents f (flat_map f.cell cs ++ rest) ≡ behind cs (contents f rest)
contents_behind f [] rest is sound fits = refl
contents_behind {C = C} {E = E} f (c ∷ cs) rest is sound fits =
    let tail = flat_map f.cell cs ++ rest in
    let grouped : flat_map f.cell (c ∷ cs) ++ rest ≡ f.cell c ++ tail = ap (λ (b : List ℕ). b ++ rest) (flat_map-cons f.cell c cs) ∙ append_assoc (f.cell c) (flat_map f.cell cs) rest in
    let fits2 : IsBytes (f.cell c ++ tail) = subst IsBytes grouped fits in
    ap (contents f) grouped ∙ contents_next f (f.cell c ++ tail) (More c tail) is fits2 (sound.0.read tail)
    ∙ ap (λ (k : Contents C E). record { cells = c ∷ k.cells; end = k.end }) (contents_behind f cs rest is sound.1 (IsBytes-back (f.cell c) tail fits2))

-- the contents of a spelling are what was spelled
pub contents_again : {C E : Type 0} (f : Format C E) (k : Contents C E) → IsFormat f → IsSound f k → IsBytes (spelling f k) → contents f (spelling f k) ≡ k
contents_again {C = C} f k is sound fits =
    let e = f.end_bytes k.end in
    contents_behind f k.cells e is sound.cells fits
    ∙ ap (behind k.cells) (contents_next f e (NoMore k.end) is (IsBytes-back (flat_map f.cell k.cells) e fits) sound.end)
    ∙ ap (λ (cs : List C). record { cells = cs; end = k.end }) (append-nil k.cells)

-- ---- things that nothing frames

pub unframed_cell : {C : Type 0} {read : List ℕ → Option (C × List ℕ)} {spell : C → List ℕ} {Fits : C → Type 0} → IsField read spell Fits → (c : C) → Fits c → IsCell (unframed read spell) c
unframed_cell {spell = spell} field c fits = record { read = λ rest. ap (next_by (spell c ++ rest)) (field.again c rest fits); some = field.nonempty c }

unframed_by : {C : Type 0} {read : List ℕ → Option (C × List ℕ)} {spell : C → List ℕ} {Fits : C → Type 0} → IsField read spell Fits → (bytes : List ℕ) (o : Option (C × List ℕ)) → IsBytes bytes → read bytes ≡ o → IsNext (unframed read spell) bytes (next_by bytes o)
unframed_by field bytes None fits e = (refl, ap (next_by bytes) e)
unframed_by field bytes (Some x) fits e = let t = field.takes bytes x fits e in (t.0, unframed_cell field x.0 t.1)

-- the unframed format of a field satisfies `IsFormat`
pub unframed_format : {C : Type 0} {read : List ℕ → Option (C × List ℕ)} {spell : C → List ℕ} {Fits : C → Type 0} → IsField read spell Fits → IsFormat (unframed read spell)
unframed_format {read = read} field = λ bytes fits. unframed_by field bytes (read bytes) fits refl

-- the first thing is read, and the rest are the contents of the bytes after it
pub record ReadsOne {C : Type 0} (f : Format C (List ℕ)) (bytes : List ℕ) (c : C) (after : List ℕ) : Type 0 where
  pub cells : (contents f bytes).cells ≡ c ∷ (contents f after).cells
  pub end : (contents f bytes).end ≡ (contents f after).end
  pub len : length bytes ≡ length (f.cell c) + length after
  pub some : 0 < length (f.cell c)
  pub fits : IsBytes after

pub reads_one : {C : Type 0} {read : List ℕ → Option (C × List ℕ)} {spell : C → List ℕ} {Fits : C → Type 0} → IsField read spell Fits → (bytes : List ℕ) (c : C) (after : List ℕ) → IsBytes bytes → read bytes ≡ Some (c, after) → ReadsOne (unframed read spell) bytes c after
reads_one {C = C} {read = read} {spell = spell} field bytes c after fits e =
    let t = field.takes bytes (c, after) fits e in
    let is = contents_next (unframed read spell) bytes (More c after) (unframed_format field) fits (ap (next_by bytes) e) in
    search (arith, length-append, is, t)

-- if nothing is read, there are no cells and the bytes are the end
pub reads_none : {C : Type 0} {read : List ℕ → Option (C × List ℕ)} {spell : C → List ℕ} {Fits : C → Type 0} → IsField read spell Fits → (bytes : List ℕ) → IsBytes bytes → read bytes ≡ None → contents (unframed read spell) bytes ≡ record { cells = []; end = bytes }
reads_none {read = read} {spell = spell} field bytes fits e = contents_next (unframed read spell) bytes (NoMore bytes) (unframed_format field) fits (ap (next_by bytes) e)
