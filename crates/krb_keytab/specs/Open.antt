-- The faults for which an image is refused: their numbers and their phrases.
use Rattle.std.specs.Prelude.{ℕ, List, codes}
use Rattle.krb_keytab.specs.declared.open.KtOpenFault.{KtOpenFault}
use Rattle.krb_keytab.specs.declared.open.KtOpenFault.TheVariants.{TooShort, BadVersion, TooLarge}

-- the number that messages have for an image that is no keytab
abbrev pub open_fault_number : KtOpenFault → ℕ
open_fault_number TooShort = 1
open_fault_number BadVersion = 2
open_fault_number TooLarge = 3

-- what a fault is, in words: our choice
abbrev pub open_fault_phrase : KtOpenFault → List ℕ
open_fault_phrase TooShort = codes "it has fewer than two bytes"
open_fault_phrase BadVersion = codes "it does not begin as a keytab of version 1 or 2"
open_fault_phrase TooLarge = codes "it is longer than the limit"
