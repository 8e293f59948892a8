-- The newest entry of a name, and which entries are old (MIT kt_file.c, more_recent).
use Rattle.std.specs.Prelude.{ℕ, zero, suc, List, [], ◌∷◌, Bool, false, true, ◌&&◌, ◌==◌, not, nat_lt, filter, if◌then◌else◌, Option, None, Some}
use Rattle.krb_wire.specs.Spelling.{Parts}
use Rattle.krb_wire.specs.Names.{have_same_name}
use Rattle.krb_keytab.specs.Entry.{EntryParts}
use Rattle.krb_keytab.specs.Find.{PlacedEntry}

-- of two kvnos the small one is below 128 and the large one above 240: kvnos of 8 bits go on from 255 at 0, so the small one may be the later
abbrev pub has_wrapped : ℕ → ℕ → Bool
has_wrapped small large = nat_lt small 128 && nat_lt 240 large

-- a later entry in the file replaces the newest so far: its kvno is greater; across a wrap of the kvno the later time decides, and at one time the smaller kvno
abbrev pub is_newer : EntryParts → EntryParts → Bool
is_newer newest later =
    if has_wrapped later.version newest.version then not (nat_lt later.timestamp newest.timestamp)
    else (if has_wrapped newest.version later.version then nat_lt newest.timestamp later.timestamp
    else nat_lt newest.version later.version)

-- the newer of the newest entry so far and a later one in the file
abbrev pub newer : Option EntryParts → EntryParts → Option EntryParts
newer None later = Some later
newer (Some newest) later = Some (if is_newer newest later then later else newest)

-- the newest of entries in file order, and of the newest so far
abbrev pub newest_from : Option EntryParts → List PlacedEntry → Option EntryParts
newest_from so_far [] = so_far
newest_from so_far (x ∷ xs) = newest_from (newer so_far x.1) xs

-- the newest entry of a name among entries
abbrev pub newest : Parts → List PlacedEntry → Option EntryParts
newest name xs = newest_from None (filter (λ x. have_same_name name x.1.principal) xs)

-- an entry's kvno is not that of the newest entry, if there is one
abbrev pub has_other_version : EntryParts → Option EntryParts → Bool
has_other_version e None = false
has_other_version e (Some newest) = not (e.version == newest.version)

-- an entry is old among entries: its kvno is not that of the newest entry of its name
abbrev pub is_old : List PlacedEntry → EntryParts → Bool
is_old xs e = has_other_version e (newest e.principal xs)

-- the old ones of some entries
abbrev pub old_of : List PlacedEntry → List PlacedEntry
old_of xs = filter (λ x. is_old xs x.1) xs

-- what is left of entries without the n newest kvnos of each name: the newest one, then the newest of what is left, and so on
abbrev pub left_after : ℕ → List PlacedEntry → List PlacedEntry
left_after zero xs = xs
left_after (suc n) xs = old_of (left_after n xs)

-- an entry has none of the n newest kvnos of its name: it is old, and old among the old ones, and so on
abbrev pub is_left : ℕ → List PlacedEntry → EntryParts → Bool
is_left zero xs e = true
is_left (suc n) xs e = is_left n xs e && is_old (left_after n xs) e
