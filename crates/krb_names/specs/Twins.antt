-- Which entries are twins.
use Rattle.std.specs.Prelude.{Bool, ◌&&◌, ◌==◌}
use Rattle.std.specs.Str.{bytes_eq}
use Rattle.krb_wire.specs.Names.{have_same_name}
use Rattle.krb_keytab.specs.Entry.{EntryParts}

-- two entries are twins: they have the same name, kvno and enctype
abbrev pub are_twins : EntryParts → EntryParts → Bool
are_twins x y = have_same_name x.principal y.principal && (x.version == y.version && x.enctype == y.enctype)

-- two entries are twins that have the same key
abbrev pub are_same : EntryParts → EntryParts → Bool
are_same x y = are_twins x y && bytes_eq x.key y.key
