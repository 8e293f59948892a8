-- What the first line of a view says of a file.
use Rattle.std.specs.Prelude.{ℕ, ◌==◌, List, [], ◌++◌, codes, decimal, Option, None, Some, if◌then◌else◌}
use Rattle.krb_audit.specs.CheckUp.{is_open, is_open_to_all}
use Rattle.krb_audit.specs.Report.{mode_digits}

-- a number and words about it, unless it is 0
abbrev pub count_note : ℕ → List ℕ → List ℕ
count_note n words = if n == 0 then [] else codes ", " ++ (decimal n ++ words)

-- the mode of a plain file that group or others may read or write, with `!` if others may
abbrev pub mode_note : Option ℕ → List ℕ
mode_note None = []
mode_note (Some mode) =
    if is_open mode then codes ", mode " ++ (mode_digits mode ++ (if is_open_to_all mode then codes "!" else [])) else []
