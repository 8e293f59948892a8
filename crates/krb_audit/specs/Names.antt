-- The bytes of a record that encode its entry's name.
use Rattle.std.specs.Prelude.{ℕ, List, ◌++◌, length, if◌then◌else◌}
use Rattle.std.specs.Int.{w16}
use Rattle.std.specs.List.{flat_map}
use Rattle.krb_wire.specs.declared.format.KtFormat.{KtFormat}
use Rattle.krb_wire.specs.Spelling.{Parts, digits, data16, order_of, count_field, has_name_type}

-- the encoding of a name without its name type
abbrev pub kt_name : KtFormat → Parts → List ℕ
kt_name f p =
    digits (order_of f) w16 (count_field f (length p.components))
    ++ (data16 (order_of f) p.realm ++ flat_map (data16 (order_of f)) p.components)

-- the size of a name type in bytes: 0 if the format has none
abbrev pub type_len : KtFormat → ℕ
type_len f = if has_name_type f then 4 else 0
