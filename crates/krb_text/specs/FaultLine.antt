-- The line of a fault.
use Rattle.std.specs.Prelude.{ℕ, List, [], ◌++◌, codes, decimal, Option, None, Some}
use Rattle.krb_walk.specs.declared.fault.Fault.{Fault}
use Rattle.krb_walk.specs.Phrases.{fault_number}

-- the line of a fault of a damaged file: the number of its kind, and its place
abbrev pub fault_text : Fault → List ℕ
fault_text fault = codes "fault " ++ (decimal (fault_number fault.kind) ++ (codes " at " ++ (decimal fault.place ++ codes "\n")))

-- the line of a fault, or nothing if the file is not damaged
abbrev pub fault_line : Option Fault → List ℕ
fault_line None = []
fault_line (Some fault) = fault_text fault
