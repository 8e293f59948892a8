-- The store of a keytab, by the fields in which it is kept.
use Rattle.krb_keytab.proofs.Cited.{◌≡◌, ℕ, ◌<◌, ◌^◌, List, length, drop, Option, Some, None, sym, ap, ◌∙◌, arith, IsSome, IfNone, KtFormat, Gives, place_first, CellsEnd, entry_at, Live, contents, IsSound, IsKnownEnd, KeytabState, InMemory, IsImage, store_of}
use Rattle.krb_walk.specs.Store.{end_of, live_bytes as store_bytes, IsPlace}
use Rattle.krb_keytab.proofs.Cuts.{places_for}
use Rattle.krb_keytab.proofs.Replacements.{live_is_at, is_at_sound}

-- ---- a keytab that is kept as an image

-- equal keytabs in memory have equal states
pub state_is : {a b : InMemory} → a ≡ b → a.state ≡ b.state
state_is is = ap (λ (k : InMemory). k.state) is

-- the keytab of an image
abbrev pub keytab_of : KtFormat → ℕ → List ℕ → KeytabState
keytab_of f limit image = record { format = f; limit = limit; contents = contents f (drop 2 image) }

-- the start of the cells is a place
pub first_is_place : (k : KeytabState) (p : ℕ) → p ≡ 2 → IsPlace (store_of k) p
first_is_place k p first = rw first (place_first (store_of k))

pub end_held : (f : KtFormat) (limit : ℕ) (image : List ℕ) (k : KeytabState) (e : CellsEnd) → IsKnownEnd f image e → keytab_of f limit image ≡ k → e.place ≡ end_of (store_of k)
end_held f limit image k e known is = sym known.place ∙ ap (λ (x : KeytabState). end_of (store_of x)) is

pub few_cells : (f : KtFormat) (limit : ℕ) (image : List ℕ) (e : CellsEnd) (count : ℕ) → IsImage f limit image → IsKnownEnd f image e → count ≡ length (contents f (drop 2 image)).cells → count < 2 ^ 30
few_cells f limit image e count is known counted = search (arith, places_for)

-- ---- the cells of a keytab

-- the bytes of a record begin with an entry
pub entry_held : (k : KeytabState) (p : ℕ) (b : List ℕ) → IsSound k.format k.contents → store_bytes (store_of k) p ≡ Some b → IsSome (entry_at k.format b)
entry_held k p b sound e = (is_at_sound k.format k.contents.cells 2 p (Live b) sound.cells (live_is_at k.contents.cells 2 p b e)).2

-- a read that is sure to return an entry returns one
pub none_there : {X Y : Type 0} (view : X → Y) (result : Option X) (read : Option Y) (o : Option (List ℕ)) → Gives view result read → IsSome read → IfNone result (o ≡ None)
none_there view result read o h some = search arith
