-- The store of an image's cells, by their lengths.
use Rattle.krb_keytab.proofs.Cited.{◌≡◌, ℕ, ◌+◌, ◌-◌, ◌^◌, ◌≤◌, List, [], ◌++◌, length, take, drop, map, Option, sym, ap, subst, ◌∙◌, arith, flat_map, append-nil, take_at, length-take, KtFormat, order_of, IsBytes, IsBytes-drop, IsBytes-take, end_from-ge, CellsEnd, Cell, Bare, Contents, cell, end_bytes, contents, ending_kind, IsKnownEnd, KeytabState, IsImage, store_cell, store_cells, store_of, nat_tests}
use Rattle.krb_walk.specs.declared.fault.FaultKind.{FaultKind}
use Rattle.krb_walk.specs.Store.{Cell as StoreCell, Store}
use Rattle.krb_cells.proofs.ContentsLemmas.{behind}
use Rattle.krb_cells.specs.Cells.{AreCells}
use Rattle.krb_cells.specs.Carry.{between}
use Rattle.krb_cells.proofs.Formats.{are_cells}
use Rattle.krb_keytab.proofs.CellLemmas.{keytab_is, contents_spelled, contents_behind}
use Rattle.krb_keytab.proofs.Cuts.{cell_len, end_place_is}
use Rattle.krb_keytab.proofs.Stores.{keytab_of}
use Rattle.krb_keytab.proofs.ImageChanges.{contents_none}

-- ---- the cells of an image

are_seen : (f : KtFormat) (bytes : List ℕ) → IsBytes bytes → (contents f bytes).end ≡ Bare → AreCells (store_cells f) bytes
unfolding contents
are_seen f bytes fits bare = search (arith, are_cells, keytab_is, cell_len)

-- the cells end after the version bytes
ahead : (f : KtFormat) (image : List ℕ) (e : CellsEnd) → IsKnownEnd f image e → 2 ≤ e.place
ahead f image e known = let place = known.place in omega (arith, place, end_from-ge 2 (store_cells f (drop 2 image)))

-- the bytes up to their end hold them and nothing else
bare : (f : KtFormat) (image : List ℕ) (e : CellsEnd) → IsBytes image → IsKnownEnd f image e → contents f (take (e.place - 2) (drop 2 image)) ≡ record { cells = (contents f (drop 2 image)).cells; end = Bare }
bare f image e fits known =
    let o = order_of f in
    let k = contents f (drop 2 image) in
    let text = flat_map (cell o) k.cells in
    let spelled = contents_spelled f (drop 2 image) (IsBytes-drop 2 image fits) in
    let size : length text ≡ e.place - 2 = omega (arith, known.place, end_place_is o 2 k.cells) in
    let taken : take (e.place - 2) (drop 2 image) ≡ text ++ [] = ap (take (e.place - 2)) spelled.parts ∙ take_at text (end_bytes o k.end) (e.place - 2) size ∙ sym (append-nil text) in
    let taken_fits : IsBytes (text ++ []) = subst IsBytes taken (IsBytes-take (e.place - 2) (drop 2 image) (IsBytes-drop 2 image fits)) in
    ap (contents f) taken ∙ contents_behind f k.cells [] spelled.sound.cells taken_fits
    ∙ ap (λ (x : Contents). behind k.cells x) (contents_none f) ∙ ap (λ (cs : List Cell). record { cells = cs; end = Bare }) (append-nil k.cells)

-- the kind of the fault at the end
pub kind_held : (f : KtFormat) (limit : ℕ) (image : List ℕ) (e : CellsEnd) (k : KeytabState) → IsKnownEnd f image e → keytab_of f limit image ≡ k → ending_kind e.ending ≡ (store_of k).fault
kind_held f limit image e k known of_k = grind (arith, nat_tests)

-- the bytes up to the end of the cells hold those of the store
pub record AreAll (f : KtFormat) (len end : ℕ) (spelled : List ℕ) (k : KeytabState) : Type 0 where
  pub ahead : 2 ≤ end
  pub within : end ≤ len
  pub are : AreCells (store_cells f) spelled
  pub small : 2 + length spelled ≤ 2 ^ 30
  pub store : (kind : Option FaultKind) → kind ≡ (store_of k).fault → ◌≡◌ {A = Store} (record { first = 2; cells = store_cells f spelled; fault = kind }) (store_of k)

pub all_held : (f : KtFormat) (limit : ℕ) (image image' spelled : List ℕ) (e : CellsEnd) (k : KeytabState) → image' ≡ image → IsBytes image → IsImage f limit image → IsKnownEnd f image e → keytab_of f limit image ≡ k
    → spelled ≡ between 2 e.place image' → AreAll f (length image') e.place spelled k
all_held f limit image image' spelled e k same fits is known of_k is_part =
    let part = between 2 e.place image in
    let held = bare f image e fits known in
    let cells : store_cells f part ≡ (store_of k).cells = ap (λ (x : Contents). map store_cell x.cells) held ∙ ap (λ (x : KeytabState). (store_of x).cells) of_k in
    let all : AreAll f (length image') e.place part k = record {
      ahead = ahead f image e known;
      within = omega (arith, known.within, ap length same);
      are = are_seen f part (IsBytes-take (e.place - 2) (drop 2 image) (IsBytes-drop 2 image fits)) (ap (λ (x : Contents). x.end) held);
      small = omega (arith, ahead f image e known, known.within, is.within, is.limit_fits, length-take (e.place - 2) (drop 2 image));
      store = λ kind wrong. ap (λ (cs : List StoreCell). record { first = 2; cells = cs; fault = kind }) cells ∙ ap (λ (x : Option FaultKind). record { first = 2; cells = (store_of k).cells; fault = x }) wrong;
    } in
    subst (λ (b : List ℕ). AreAll f (length image') e.place b k) (ap (between 2 e.place) (sym same) ∙ sym is_part) all
