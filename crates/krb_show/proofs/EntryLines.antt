-- The line of an entry.
use Rattle.krb_show.proofs.Cited.{arith, ◌≡◌, ℕ, List, [], Option, unwrap_or, Some, KtFormat, EntryParts, entry_at, LineParts, grown, with_entry, Parts}
use Rattle.krb_show.specs.Named.{principal_in}

-- the name in a record that spells an entry
pub named : (f : KtFormat) (b : List ℕ) (e : EntryParts) → entry_at f b ≡ Some e → principal_in f b ≡ e.principal
named f b e read = grind (arith, read)

-- what is kept of a line, which may have begun with the entry, after the entry's time and enctype were added
pub line_is : (new now : LineParts) (line found : Option LineParts) (e : EntryParts) (name : Parts) (none : List ℕ) (time etype : ℕ)
    → line ≡ found → now ≡ unwrap_or line (record { principal = name; added = 0; etypes = none }) → name ≡ e.principal → none ≡ []
    → new ≡ grown now time etype → time ≡ e.timestamp → etype ≡ e.enctype → new ≡ with_entry found e
line_is new now line found e name none time etype same is named empty put t k =
    grind (arith, is, same, named, empty, put, t, k)
