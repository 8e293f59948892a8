-- Lists that have a value for each name of a keytab, at the number of its first entry.
use Rattle.std.specs.Prelude.{ℕ, ◌<◌, ◌==◌, List, get_or, slice_set, if◌then◌else◌}
use Rattle.krb_audit.specs.declared.rows.Row.{Row}

-- a list of that length has a place at the number of a row
abbrev pub HasPlace : ℕ → Row → Type 0
HasPlace len r = r.first < len

-- the list with the step of a row at its number
abbrev pub stepped : {V : Type 0} → (V → Row → V) → V → List V → Row → List V
stepped step none list r = slice_set list r.first (step (get_or list r.first none) r)

-- the value at a number with the step of a row, if the row has that number
abbrev pub at_number : {V : Type 0} → (V → Row → V) → ℕ → V → Row → V
at_number step i v r = if r.first == i then step v r else v
