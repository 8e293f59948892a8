-- Rewriting a keytab.
use Rattle.std.specs.Prelude.{length, map, is_some, Result, Ok, Err, nat_lt, if◌then◌else◌}
use Rattle.krb_wire.specs.declared.format.KtFormat.TheVariants.{V2}
use Rattle.krb_walk.specs.declared.refusal.Code.{Code}
use Rattle.krb_walk.specs.declared.refusal.Code.TheVariants.{Damaged, Full}
use Rattle.krb_walk.specs.Store.{fault_of}
use Rattle.krb_keytab.specs.Entry.{EntryParts}
use Rattle.krb_keytab.specs.Cells.{Cell, Live, Bare}
use Rattle.krb_keytab.specs.Store.{KeytabState, image_of, store_of, entries}
use Rattle.krb_keytab.specs.Form.{written_form}
use Rattle.krb_walk.specs.Rules.{Rules}
use Rattle.krb_keytab.specs.Changes.{cut_result, put_result, takes_none}

-- the record that a rewrite has for an entry: the entry's written form in version 2, and no more
abbrev pub new_record : EntryParts → Cell
new_record e = Live (written_form V2 e)

-- a keytab rewritten: in version 2, with a record for each entry, in order, no holes, and nothing after the cells
abbrev pub rewrite_of : KeytabState → KeytabState
rewrite_of k = record { format = V2; limit = k.limit; contents = record { cells = map new_record (entries k); end = Bare } }

-- the result of rewriting a keytab: refused if the keytab is damaged, and then if the new image would be longer than the limit
abbrev pub rewrite_result : KeytabState → Result KeytabState Code
rewrite_result k =
    if is_some (fault_of (store_of k)) then Err Damaged
    else (if nat_lt k.limit (length (image_of (rewrite_of k))) then Err Full else Ok (rewrite_of k))

-- ---- a keytab as a store that is walked while it changes

-- a keytab as a store, and the results of an addition, a removal and a rewrite
abbrev pub keytab_rules : Rules KeytabState EntryParts
keytab_rules = record { seen = store_of; put = put_result; cut = cut_result; rewrite = rewrite_result; takes_none = takes_none }
