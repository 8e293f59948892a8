-- Short names of encryption types.
use Rattle.std.specs.Prelude.{ℕ, ◌^◌, nat_lt, Bool, false, ◌&&◌, ℤ, pos, negsuc, List, [], ◌++◌, codes, decimal, unwrap_or, Option, None, Some, if◌then◌else◌}
use Rattle.std.specs.Fmt.{signed_decimal}
use Rattle.krb_text.specs.Etype.{is_weak, short_name_of}
use Rattle.krb_ccache.specs.declared.ticket.TicketEncryption.{TicketEncryption}

-- the short name of an enctype, or its number if it has none
abbrev pub short_name : ℕ → List ℕ
short_name n = unwrap_or (short_name_of n) (decimal n)

-- an enctype in a cell, with `!` after a weak one
unfoldable pub etype_cell : ℕ → List ℕ
etype_cell n = short_name n ++ (if is_weak n then codes "!" else [])

-- an enctype of 32 bits is weak
abbrev pub is_weak_wide : ℤ → Bool
is_weak_wide (pos n) = nat_lt n (2 ^ 16) && is_weak n
is_weak_wide (negsuc n) = false

-- an enctype of 32 bits as a cell
abbrev pub wide_etype_cell : ℤ → List ℕ
wide_etype_cell (pos n) = if nat_lt n (2 ^ 16) then etype_cell n else decimal n
wide_etype_cell (negsuc n) = signed_decimal (negsuc n)

-- a ticket is encrypted by a weak enctype
abbrev pub has_weak_encryption : Option TicketEncryption → Bool
has_weak_encryption None = false
has_weak_encryption (Some e) = is_weak_wide e.etype

-- the kvno after an enctype in a cell, if there is one
abbrev pub kvno_words : Option ℕ → List ℕ
kvno_words None = []
kvno_words (Some kvno) = codes " kvno " ++ decimal kvno

-- how a ticket is encrypted as a cell: the enctype, and the kvno of the key
abbrev pub encryption_cell : Option TicketEncryption → List ℕ
encryption_cell None = codes "-"
encryption_cell (Some e) = wide_etype_cell e.etype ++ kvno_words e.kvno
