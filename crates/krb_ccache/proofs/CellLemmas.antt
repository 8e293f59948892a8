-- The credentials that bytes begin with, one after the other.
use Rattle.krb_ccache.proofs.Cited.{take, drop, Option, ◌≡◌, ℕ, ◌+◌, List, [], ◌∷◌, length, map, ap, ◌∙◌, length-append, arith, ◌-◌, ◌^◌, ◌<◌, ◌≤◌, Some, None, flat_map, AllByRecursion, take_at, drop_at, flat_map-cons, IsBytes, wide32, contents, IsCell, end_from, ReadsOne, reads_one, reads_none, IsFormat, unframed_cell, unframed_format, seen_in, Version, CredParts, credential, credential_at, is_marked, FitsCredential, credentials_format, store_cell, live_by, CredentialsFrom, BeginsWithCredential}
use Rattle.krb_cells.proofs.Formats.{IsSeen}
use Rattle.krb_ccache.proofs.CredentialField.{credential_field}

pub credentials_are : (v : Version) → IsFormat (credentials_format v)
credentials_are v = unframed_format (credential_field v)

pub credentials_seen : (v : Version) → IsSeen (credentials_format v) (store_cell v)
credentials_seen v = search (arith, credentials_are, wide32)

-- credentials that begin at a place end at that place plus the length of their spelling
pub end_is : (v : Version) (at : ℕ) (cs : List CredParts) → end_from at (map (store_cell v) cs) ≡ at + length (flat_map (credential v) cs)
end_is v at [] = omega arith
end_is v at (c ∷ cs) = search (arith, end_is v (at + length (credential v c)) cs, flat_map-cons, length-append)

-- one credential was read from the front
pub read_one : (v : Version) (bytes : List ℕ) (c : CredParts) (after : List ℕ) → IsBytes bytes → credential_at v bytes ≡ Some (c, after) → ReadsOne (credentials_format v) bytes c after
read_one v bytes c after fits e = reads_one (credential_field v) bytes c after fits e

-- fewer bytes are left after it
pub read_left : (v : Version) (bytes : List ℕ) (c : CredParts) (after : List ℕ) → IsBytes bytes → credential_at v bytes ≡ Some (c, after) → IsBytes after × (length after < length bytes)
read_left v bytes c after fits e = let r = read_one v bytes c after fits e in let len = r.len in let some = r.some in (r.fits, omega (arith, len, some))

-- no credential was read
pub read_none : (v : Version) (bytes : List ℕ) → IsBytes bytes → credential_at v bytes ≡ None → contents (credentials_format v) bytes ≡ record { cells = []; end = bytes }
read_none v bytes fits e = reads_none (credential_field v) bytes fits e

-- a credential that was read is the first cell of the store
pub cell_first : (v : Version) (bytes : List ℕ) (c : CredParts) (after : List ℕ) (live : Option (List ℕ)) → IsBytes bytes → credential_at v bytes ≡ Some (c, after) → live ≡ live_by (is_marked c) (take (length bytes - length after) bytes)
    → seen_in (credentials_format v) (store_cell v) bytes ≡ record { width = length bytes - length after; live = live } ∷ seen_in (credentials_format v) (store_cell v) (drop (length bytes - length after) bytes)
cell_first v bytes c after live fits e is_live =
    let n = length bytes - length after in
    let r = read_one v bytes c after fits e in
    let t = ((credential_field v).takes bytes (c, after) fits e).0 in
    let width : length (credential v c) ≡ n = omega (arith, r.len) in
    let taken : take n bytes ≡ credential v c = ap (take n) t.parts ∙ take_at (credential v c) after n width in
    let left : drop n bytes ≡ after = ap (drop n) t.parts ∙ drop_at (credential v c) after n width in
    rw (is_live, taken, left, ← width) (ap (map (store_cell v)) r.cells)

-- a credential that was read is the first of those that the bytes begin with
pub begins : (v : Version) (place : ℕ) (bytes : List ℕ) (c : CredParts) (after : List ℕ) (old : CredentialsFrom) → ReadsOne (credentials_format v) bytes c after → place + length bytes ≤ 2 ^ 30
    → ◌≡◌ {A = CredentialsFrom} (record { version = v; place = place; cells = (contents (credentials_format v) bytes).cells }) old → BeginsWithCredential old place c (record { version = v; place = place + (length bytes - length after); cells = (contents (credentials_format v) after).cells })
begins v place bytes c after old r small is = search (arith)

-- one credential fewer is left
pub fewer_left : (old new : CredentialsFrom) (at : ℕ) (c : CredParts) → BeginsWithCredential old at c new → length new.cells < length old.cells
fewer_left old new at c b = omega (arith, ap length b.cells)

-- credentials that fit are cells
pub all_cells : (v : Version) (cs : List CredParts) → AllByRecursion (FitsCredential v) cs → AllByRecursion (IsCell (credentials_format v)) cs
all_cells v [] fit = tt
all_cells v (c ∷ cs) fit = (unframed_cell (credential_field v) c fit.0, all_cells v cs fit.1)
