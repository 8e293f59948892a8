-- What is at a place, read whole.
use Rattle.krb_keytab.proofs.Cited.{◌≡◌, ℕ, ◌+◌, ◌≤◌, List, ◌∷◌, length, take, drop, ap, ◌∙◌, arith, length-take, length-drop, drop-drop, KtFormat, IsBytes, IsBytes-drop, Length, Ending, size_of, Contents, cell_in, next, contents, size, ends, IsPassed, EndsThere, NoMore, More}
use Rattle.krb_keytab.proofs.CellLemmas.{contents_next}

pub ends_there : (f : KtFormat) (image : List ℕ) (at : ℕ) (e : Ending) → IsBytes image → next f (drop at image) ≡ NoMore (ends (drop at image) e) → EndsThere f image at e
ends_there f image at e fits is = contents_next f (drop at image) (NoMore (ends (drop at image) e)) (IsBytes-drop at image fits) is

size_in : (l : Length) (b : List ℕ) → size (cell_in l b) ≡ length b
size_in l b = search arith

pub passed : (f : KtFormat) (image : List ℕ) (at : ℕ) (l : Length) → IsBytes image → at ≤ length image → 4 + size_of l ≤ length (drop at image)
    → next f (drop at image) ≡ More (cell_in l (take (size_of l) (drop 4 (drop at image)))) (drop (size_of l) (drop 4 (drop at image))) → IsPassed f image at (at + (4 + size_of l))
passed f image at l fits le within is =
    let n = size_of l in
    let b = take n (drop 4 (drop at image)) in
    let c = cell_in l b in
    let rest : drop n (drop 4 (drop at image)) ≡ drop (at + (4 + n)) image = drop-drop n 4 (drop at image) ∙ drop-drop (4 + n) at image in
    let all = contents_next f (drop at image) (More c (drop n (drop 4 (drop at image)))) (IsBytes-drop at image fits) is in
    let cells : (contents f (drop at image)).cells ≡ c ∷ (contents f (drop (at + (4 + n)) image)).cells =
    ap (λ (k : Contents). k.cells) all ∙ ap (λ (x : List ℕ). c ∷ (contents f x).cells) rest in
    let len : size c ≡ n = size_in l b ∙ omega (arith, within, length-take n (drop 4 (drop at image)), length-drop 4 (drop at image)) in
    search (arith, length-drop, cells, n, len, all, rest)
