-- What a log for proofs has, if there is one.
use Rattle.std.specs.Prelude.{ℕ, List, [], Option, None, Some, option_map, slice_get}
use Rattle.krb_files.specs.declared.log.Log.{Log}

-- its entries
abbrev pub entries_of : Option Log → List (List ℕ × List ℕ)
entries_of None = []
entries_of (Some log) = log.entries

-- the name of the last one
abbrev pub last_name : Option Log → Option (List ℕ)
last_name log = option_map (λ entry. entry.0) (slice_get (entries_of log) 0)
