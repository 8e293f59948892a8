-- The phrase of a status.
use Rattle.std.specs.Prelude.{ℕ, ◌==◌, List, codes, Option, Some, None, if◌then◌else◌}
use Rattle.krb_wire.specs.declared.name_fault.NameFault.TheVariants as fault
use Rattle.krb_wire.specs.NameOf.{name_fault_phrase}
use Rattle.krb_walk.specs.declared.refusal.Code.TheVariants as code
use Rattle.krb_walk.specs.Phrases.{code_phrase}
use Rattle.krb_ccache.specs.declared.open.CcOpenFault.TheVariants as opening
use Rattle.krb_ccache.specs.Open.{open_fault_phrase}
use Rattle.krb_findings.specs.Table.{row_of}
use Rattle.krb_findings.specs.declared.finding.Finding.TheVariants.{Etype}

-- the phrase of a status, if it has one: that of its code or its fault, or its own; keytabs and caches differ in that of a bad version
abbrev pub phrase_of : ℕ → Option (List ℕ)
phrase_of n =
    if n == 0 then Some (codes "done") else if n == 1 then Some (name_fault_phrase fault.NoMemory)
    else if n == 2 then Some (codes "the walk is at its end") else if n == 11 then Some (open_fault_phrase opening.TooShort)
    else if n == 12 then Some (codes "its version is none that is read") else if n == 13 then Some (open_fault_phrase opening.TooLarge)
    else if n == 14 then Some (open_fault_phrase opening.BadHeader) else if n == 15 then Some (open_fault_phrase opening.BadDefault)
    else if n == 21 then Some (name_fault_phrase fault.NoRealm) else if n == 22 then Some (name_fault_phrase fault.LoneBackslash)
    else if n == 23 then Some (name_fault_phrase fault.SecondAt) else if n == 24 then Some (name_fault_phrase fault.SlashInRealm)
    else if n == 31 then Some (code_phrase code.Damaged) else if n == 32 then Some (code_phrase code.TooLong)
    else if n == 33 then Some (code_phrase code.Full) else if n == 34 then Some (code_phrase code.NotAPlace)
    else if n == 35 then Some (code_phrase code.NotLive) else if n == 36 then Some (code_phrase code.NoSuchWalk)
    else if n == 37 then Some (code_phrase code.TooManyWalks) else if n == 38 then Some (code_phrase code.ReadOnly)
    else if n == 39 then Some (code_phrase code.NotFound) else if n == 40 then Some (code_phrase code.KvnoNotFound)
    else if n == 41 then Some (code_phrase code.Marked) else if n == 42 then Some (codes "the key is not as long as its type's")
    else if n == 43 then Some (row_of Etype).phrase else None
