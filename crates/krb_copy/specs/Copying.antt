-- Copying the entries asked for into a keytab.
use Rattle.std.specs.Prelude.{ℕ, List, [], ◌∷◌, ◌++◌, Bool, true, false, ◌&&◌, ◌||◌, not, map, filter, codes, decimal, Option, None, Some, Result, Ok, Err, if◌then◌else◌}
use Rattle.std.specs.List.{flat_map, list_any}
use Rattle.std.specs.Str.{bytes_eq}
use Rattle.krb_walk.specs.declared.refusal.Code.{Code}
use Rattle.krb_wire.specs.Spelling.{Parts}
use Rattle.krb_keytab.specs.Entry.{EntryParts}
use Rattle.krb_keytab.specs.Find.{PlacedEntry, placed_entries}
use Rattle.krb_keytab.specs.Store.{KeytabState}
use Rattle.krb_keytab.specs.Changes.{put_result, without}
use Rattle.krb_keytab_text.specs.Listing.{placed_line, removed_line}
use Rattle.krb_names.specs.Twins.{are_twins, are_same}

-- ---- what is asked for

-- what copies get in place of their own, where it is given: a name, and a version
pub record NewParts : Type 0 where
  pub name : Option Parts
  pub kvno : Option ℕ

-- an entry under a new name, if one is given; its name type stays
abbrev pub renamed : Option Parts → EntryParts → EntryParts
renamed None x = x
renamed (Some name) x = record x { principal = record name { name_type = x.principal.name_type } }

-- an entry of a new version, if one is given
abbrev pub versioned : Option ℕ → EntryParts → EntryParts
versioned None x = x
versioned (Some kvno) x = record x { version = kvno }

-- an entry as it is copied
abbrev pub renewed : NewParts → EntryParts → EntryParts
renewed new x = versioned new.kvno (renamed new.name x)

-- entries with their places, each as it is copied
abbrev pub asked_as : NewParts → List PlacedEntry → List PlacedEntry
asked_as new xs = map (λ x. (x.0, renewed new x.1)) xs

-- ---- what becomes of an entry

-- an entry that TO has during a run of ktcopy: its place, the entry, and whether the run added it
pub record Held : Type 0 where
  pub place : ℕ
  pub entry : EntryParts
  pub is_copied : Bool

-- an entry that TO had before the run of ktcopy
abbrev pub as_found : PlacedEntry → Held
as_found x = record { place = x.0; entry = x.1; is_copied = false }

-- an entry that the run of ktcopy added at a place
abbrev pub as_copied : ℕ → EntryParts → Held
as_copied place x = record { place = place; entry = x; is_copied = true }

-- the twins of an entry, in order
abbrev pub twins : EntryParts → List Held → List Held
twins x held = filter (λ h. are_twins x h.entry) held

-- an entry of TO stays: the run added it, or an entry asked for before has the same name, kvno, enctype and key
abbrev pub is_kept : List EntryParts → Held → Bool
is_kept before h = h.is_copied || list_any (λ a. are_same a h.entry) before

-- what ktcopy does with an entry: it is `There`; it makes a `Clash` with the entry of TO at a place; or `Copy` adds it, once the entries of TO at these places are removed
pub data Step : Type 0 where
  There : Step
  Clash : ℕ → Step
  Copy : List ℕ → Step

-- what ktcopy does with an entry whose key is not in TO, by its twins there (entries of the same name, kvno and enctype): without twins it is copied; with `--replace` the twins go, unless one of them stays; else it clashes
abbrev pub step_among : Bool → List EntryParts → List Held → Step
step_among replace before [] = Copy []
step_among replace before (t ∷ ts) =
    if replace && not (list_any (is_kept before) (t ∷ ts)) then Copy (map (λ h. h.place) (t ∷ ts)) else Clash t.place

-- what ktcopy does with an entry, by what was asked for before and what TO has: if a twin has the same key, the entry is there
abbrev pub step_of : Bool → List EntryParts → List Held → EntryParts → Step
step_of replace before held x =
    if list_any (λ h. bytes_eq x.key h.entry.key) (twins x held) then There else step_among replace before (twins x held)

-- ---- a run

-- a run of ktcopy so far: the keytab of TO, its entries, those asked for, the lines of all, the lines of clashes, and the places of the copies
pub record Run : Type 0 where
  pub keytab : KeytabState
  pub held : List Held
  pub before : List EntryParts
  pub text : List ℕ
  pub clashes : List ℕ
  pub places : List ℕ

-- the line of an entry that clashes, with its place and that of its first twin in TO
abbrev pub clash_line : PlacedEntry → ℕ → List ℕ
clash_line x twin = codes "clash " ++ (decimal x.0 ++ placed_line (codes " ") (twin, x.1))

-- the lines of an entry that is copied to a place: one for each twin that is removed, and one for the copy
abbrev pub copied_lines : EntryParts → List ℕ → ℕ → List ℕ
copied_lines x removed place = flat_map (λ p. removed_line (p, x)) removed ++ placed_line (codes "copied ") (place, x)

-- the entries of TO with a copy at a place, and without its twins
abbrev pub with_copy : List Held → EntryParts → ℕ → List Held
with_copy held x place = filter (λ h. not (are_twins x h.entry)) held ++ as_copied place x ∷ []

-- the run after a copy was added at the place that was found, or why it was not added
abbrev pub run_added : Run → EntryParts → List ℕ → Result (ℕ × KeytabState) Code → Result Run Code
run_added run x removed (Err code) = Err code
run_added run x removed (Ok given) = Ok (record {
  keytab = given.1;
  held = with_copy run.held x given.0;
  before = run.before ++ x ∷ [];
  text = run.text ++ copied_lines x removed given.0;
  clashes = run.clashes;
  places = run.places ++ given.0 ∷ [];
})

-- the run after a step
abbrev pub run_after : Run → PlacedEntry → Step → Result Run Code
run_after run x There = Ok (record run { before = run.before ++ x.1 ∷ [] })
run_after run x (Clash twin) = Ok (record run { before = run.before ++ x.1 ∷ []; text = run.text ++ clash_line x twin; clashes = run.clashes ++ clash_line x twin })
run_after run x (Copy places) = run_added run x.1 places (put_result (without run.keytab places) x.1)

-- a text has lines
abbrev pub has_lines : List ℕ → Bool
has_lines [] = false
has_lines (b ∷ others) = true

-- the run goes on with the other entries, or ends where an addition is refused: with the refusal, unless an entry clashed before
abbrev pub go_on : (Run → Result Run Code) → Run → Result Run Code → Result Run Code
go_on others run (Ok next) = others next
go_on others run (Err code) = if has_lines run.clashes then Ok run else Err code

-- the run over more entries asked for, in order
abbrev pub run_over : Bool → List PlacedEntry → Run → Result Run Code
run_over replace [] run = Ok run
run_over replace (x ∷ xs) run = go_on (run_over replace xs) run (run_after run x (step_of replace run.before run.held x.1))

-- the run before the first entry
abbrev pub run_start : KeytabState → Run
run_start k = record { keytab = k; held = map as_found (placed_entries k); before = []; text = []; clashes = []; places = [] }

-- copying the entries asked for into a keytab
unfoldable pub copy_run : Bool → List PlacedEntry → KeytabState → Result Run Code
copy_run replace asked k = run_over replace asked (run_start k)
