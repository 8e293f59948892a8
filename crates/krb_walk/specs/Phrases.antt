-- The phrases of faults and codes.
use Rattle.std.specs.Prelude.{ℕ, List, ◌++◌, codes, decimal}
use Rattle.krb_walk.specs.declared.fault.Fault.{Fault}
use Rattle.krb_walk.specs.declared.fault.FaultKind.{FaultKind}
use Rattle.krb_walk.specs.declared.fault.FaultKind.TheVariants.{CutLength, Overrun, BadEntry, BadCredential}
use Rattle.krb_walk.specs.declared.refusal.Code.{Code}
use Rattle.krb_walk.specs.declared.refusal.Code.TheVariants.{Damaged, TooLong, Full, NotAPlace, NotLive, NoSuchWalk, TooManyWalks, ReadOnly, NotFound, KvnoNotFound, Marked}
use Rattle.krb_walk.specs.declared.refusal.Refusal.{Refusal}
use Rattle.krb_walk.specs.declared.refusal.Refusal.TheVariants.{Code as ByCode, NoMemory}

-- ---- the numbers that are printed for faults and codes

-- the number that is printed for a kind of fault: the file ends within a length, a record or hole passes the file's end, a record without an entry, or bytes that are no credential
abbrev pub fault_number : FaultKind → ℕ
fault_number CutLength = 1
fault_number Overrun = 2
fault_number BadEntry = 3
fault_number BadCredential = 4

-- the number that is printed for a refusal
abbrev pub code_number : Code → ℕ
code_number Damaged = 1
code_number TooLong = 2
code_number Full = 3
code_number NotAPlace = 4
code_number NotLive = 5
code_number NoSuchWalk = 6
code_number TooManyWalks = 7
code_number ReadOnly = 8
code_number NotFound = 9
code_number KvnoNotFound = 10
code_number Marked = 11

-- ---- the phrases of faults and codes

-- a kind of fault in words
abbrev pub fault_phrase : FaultKind → List ℕ
fault_phrase CutLength = codes "the file ends within a length"
fault_phrase Overrun = codes "a record or a hole is longer than the rest of the file"
fault_phrase BadEntry = codes "a record holds no entry"
fault_phrase BadCredential = codes "no whole credential follows; cut off, or being written"

-- the text of a fault: its number, its place and its phrase
abbrev pub fault_text : Fault → List ℕ
fault_text fault = codes "fault " ++ decimal (fault_number fault.kind) ++ codes " at " ++ decimal fault.place ++ codes ": " ++ fault_phrase fault.kind

-- the phrase of a refusal code, whatever the command is
abbrev pub code_phrase : Code → List ℕ
code_phrase Damaged = codes "the file is damaged; klist tells where"
code_phrase TooLong = codes "a name or a key is too long for a keytab"
code_phrase Full = codes "the file would be longer than its limit"
code_phrase NotAPlace = codes "this is no place of the file"
code_phrase NotLive = codes "nothing to remove stands at this place"
code_phrase NoSuchWalk = codes "no such walk"
code_phrase TooManyWalks = codes "there are 1,024 walks already"
code_phrase ReadOnly = codes "a cache of version 3 is changed only by a rewrite"
code_phrase NotFound = codes "no entry of this name and encryption type"
code_phrase KvnoNotFound = codes "this name and encryption type have no such version"
code_phrase Marked = codes "the credential bears the mark of a removed one"

-- the phrase of a refusal, or of a failed allocation
abbrev pub refusal_phrase : Refusal → List ℕ
refusal_phrase (ByCode code) = code_phrase code
refusal_phrase NoMemory = codes "out of memory"
