-- The name in a record.
use Rattle.std.specs.Prelude.{ℕ, List, [], option_map, unwrap_or}
use Rattle.krb_wire.specs.Spelling.{Parts}
use Rattle.krb_wire.specs.declared.format.KtFormat.{KtFormat}
use Rattle.krb_keytab.specs.Entry.{entry_at}

-- the name of the entry that a record spells
abbrev pub principal_in : KtFormat → List ℕ → Parts
principal_in f b = unwrap_or (option_map (λ e. e.principal) (entry_at f b)) (record { name_type = 0; realm = []; components = [] })
