-- An addition to a cache, and a removal from it, change one cell of its store.
use Rattle.krb_ccache.proofs.Cited.{arith, ◌≡◌, ℕ, ◌<◌, Bool, true, false, List, [], ◌∷◌, ◌++◌, length, map, Some, None, refl, ap, ◌∙◌, is_some, IsSome, AllByRecursion, map-append, Cell, end_of, fault_of, is_place_from, live_bytes, IsPlace, is_some_has, Version, V4, CredParts, credential, is_marked, CacheState, live_by, store_cell, store_of, fault_kind, first_place, credential_at_place, add_mark, add_mark_at, with_mark, with_last, is_read_only, Cuts, bytes_from, bytes_here, whole_of, split_is_place}
use Rattle.krb_walk.specs.Changes.{Puts}
use Rattle.krb_ccache.proofs.CredentialField.{credential_field}
use Rattle.krb_ccache.proofs.MarkLemmas.{IsAt, found_at, marked_one, marked_len}
use Rattle.krb_ccache.proofs.Splits.{live_is}

-- nothing follows the credentials of a cache without a fault
pub end_by : (k : CacheState) → is_some (fault_of (store_of k)) ≡ false → k.contents.end ≡ []
end_by k h = search (arith, whole_of)

pub version_by : (v : Version) → is_read_only v ≡ false → v ≡ V4
version_by v h = search arith

-- ---- removals

pub live_cell : (v : Version) (c : CredParts) → is_marked c ≡ false → ◌≡◌ {A = Cell} (store_cell v c) (record { width = length (credential v c); live = Some (credential v c) })
live_cell v c live = ap (λ (b : Bool). record { width = length (credential v c); live = live_by b (credential v c) }) live

free_cell : (v : Version) (c : CredParts) → ◌≡◌ {A = Cell} (store_cell v (add_mark c)) (record { width = length (credential v c); live = None })
free_cell v c = ap (λ (n : ℕ). record { width = n; live = None }) (marked_len v c)

-- a mark frees one cell
mark_cells : (k : CacheState) (p : ℕ) (c : CredParts) (s : IsAt k.version (first_place k) k.contents.cells p c) → map (store_cell k.version) (with_mark k p).contents.cells ≡ map (store_cell k.version) s.before ++ store_cell k.version (add_mark c) ∷ map (store_cell k.version) s.after
mark_cells k p c s =
    ap (λ cs. map (store_cell k.version) (add_mark_at k.version (first_place k) p cs)) s.parts ∙ ap (map (store_cell k.version)) (marked_one k.version (first_place k) p s.before s.after c s.place)
    ∙ map-append (store_cell k.version) s.before (add_mark c ∷ s.after)

pub mark_cuts : (k : CacheState) (p : ℕ) (c : CredParts) → is_some (fault_of (store_of k)) ≡ false → credential_at_place k p ≡ Some c → Cuts (store_of k) (store_of (with_mark k p)) p
mark_cuts k p c whole there =
    let seen = store_cell k.version in
    let s = found_at k.version (first_place k) p k.contents.cells c there in
    record {
      whole = whole_of (end_of (store_of k)) (fault_kind k.contents.end) whole;
      how = record {
        width = length (credential k.version c);
        bytes = credential k.version c;
        cell = record {
          before = map seen s.before;
          after = map seen s.after;
          place = s.place;
          old_cells = ap (map seen) s.parts ∙ map-append seen s.before (c ∷ s.after) ∙ ap (λ (x : Cell). map seen s.before ++ x ∷ map seen s.after) (live_cell k.version c s.live);
          new_cells = mark_cells k p c s ∙ ap (λ (x : Cell). map seen s.before ++ x ∷ map seen s.after) (free_cell k.version c);
          first = refl;
          fault = refl;
        };
      };
    }

pub cells_wide : (v : Version) (cs : List CredParts) → AllByRecursion (λ (c : Cell). 0 < c.width) (map (store_cell v) cs)
cells_wide v [] = tt
cells_wide v (c ∷ cs) = search (arith, credential_field, cells_wide v cs)

pub mark_gone : (k : CacheState) (p : ℕ) (c : CredParts) → credential_at_place k p ≡ Some c → live_bytes (store_of (with_mark k p)) p ≡ None
mark_gone k p c there =
    let s = found_at k.version (first_place k) p k.contents.cells c there in
    let seen = store_cell k.version in
    rw (mark_cells k p c s) (ap (bytes_from (first_place k) (map seen s.before ++ seen (add_mark c) ∷ map seen s.after)) s.place ∙ bytes_here (first_place k) _ None (map seen s.before) (map seen s.after) (cells_wide k.version s.before))

-- the place of a credential that was marked is still a place
pub mark_place : (k : CacheState) (p : ℕ) → IsSome (credential_at_place k p) → IsPlace (store_of (with_mark k p)) p
mark_place k p live =
    let t = is_some_has (credential_at_place k p) live in
    let s = found_at k.version (first_place k) p k.contents.cells t.0 t.1 in
    let cells = map (store_cell k.version) s.before ++ store_cell k.version (add_mark t.0) ∷ map (store_cell k.version) s.after in
    rw (mark_cells k p t.0 s) (ap (is_place_from (first_place k) cells) s.place ∙ split_is_place (first_place k) (map (store_cell k.version) s.before) _)

-- a live credential is where live bytes are
pub live_there : (k : CacheState) (p : ℕ) → is_some (live_bytes (store_of k) p) ≡ true → (c : CredParts) × (credential_at_place k p ≡ Some c)
live_there k p h = search (arith, is_some_has, live_is)

-- ---- additions

pub last_puts : (k : CacheState) (c : CredParts) → is_some (fault_of (store_of k)) ≡ false → is_marked c ≡ false → Puts (store_of k) (store_of (with_last k c)) (end_of (store_of k))
last_puts k c whole live = search (arith, whole_of, credential_field, map-append, live_cell)
