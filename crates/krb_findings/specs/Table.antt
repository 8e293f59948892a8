-- The table of findings, and sets of them.
use Rattle.std.specs.Prelude.{ℕ, ◌^◌, ◌-◌, bit_and, bit_or, List, [], ◌∷◌, ◌++◌, codes, Bool, true, false, not, ◌==◌, if◌then◌else◌, fold}
use Rattle.krb_findings.specs.declared.finding.Finding.{Finding}
use Rattle.krb_findings.specs.declared.finding.Finding.TheVariants.{Weak, Hidden, Same, Clash, Old, Mode, Size, Aged, Missing, Empty, Nostrong, Unwanted, User, Unread, Name, Kvno, Etype}
use Rattle.krb_findings.specs.declared.finding_set.FindingSet.{FindingSet}

-- what the table has of a finding: the word that its lines begin with, its phrase, and whether it makes the status 1
pub record Row : Type 0 where
  pub word : List ℕ
  pub phrase : List ℕ
  pub counts : Bool

-- the row of a finding; a mode makes the status 1 only if others may read or write the file
abbrev pub row_of : Finding → Row
row_of Weak = record { word = codes "weak"; phrase = codes "an encryption type that MIT calls weak or deprecated"; counts = true }
row_of Hidden = record { word = codes "hidden"; phrase = codes "MIT's programs see no entry from this one on"; counts = true }
row_of Same = record { word = codes "same"; phrase = codes "this key stands there twice"; counts = true }
row_of Clash = record { word = codes "clash"; phrase = codes "two keys for one name, version and type"; counts = true }
row_of Old = record { word = codes "old"; phrase = codes "a newer version of this name stands there"; counts = false }
row_of Mode = record { word = codes "mode"; phrase = codes "users other than the owner may read or change this file"; counts = false }
row_of Size = record { word = codes "size"; phrase = codes "a key that is not as long as its type's"; counts = true }
row_of Aged = record { word = codes "aged"; phrase = codes "a key that is older than was asked"; counts = true }
row_of Missing = record { word = codes "missing"; phrase = codes "no entry of a name that was asked for"; counts = true }
row_of Empty = record { word = codes "empty"; phrase = codes "a keytab without an entry"; counts = true }
row_of Nostrong = record { word = codes "nostrong"; phrase = codes "a name whose newest version has only weak keys"; counts = true }
row_of Unwanted = record { word = codes "unwanted"; phrase = codes "a name that was not asked for"; counts = true }
row_of User = record { word = codes "user"; phrase = codes "no keytab opens this ticket"; counts = false }
row_of Unread = record { word = codes "unread"; phrase = codes "the ticket is not in Kerberos' form"; counts = true }
row_of Name = record { word = codes "name"; phrase = codes "the keytab has no entry of this name"; counts = true }
row_of Kvno = record { word = codes "kvno"; phrase = codes "the keytab has other versions of this name"; counts = true }
row_of Etype = record { word = codes "etype"; phrase = codes "the keytab has no key of this type in that version"; counts = true }

-- the findings of a check, in the order in which words explain them
abbrev pub all_findings : List Finding
all_findings = Weak ∷ Hidden ∷ Same ∷ Clash ∷ Old ∷ Mode ∷ Size ∷ Aged ∷ Missing ∷ Empty ∷ Nostrong ∷ Unwanted ∷ []

-- what is said of tickets, in that order
abbrev pub findings_about_tickets : List Finding
findings_about_tickets = User ∷ Unread ∷ Name ∷ Kvno ∷ Etype ∷ []

-- the findings about an entry, in the order of its lines
abbrev pub findings_about_entries : List Finding
findings_about_entries = Weak ∷ Size ∷ Hidden ∷ Same ∷ Clash ∷ Old ∷ Aged ∷ []

-- the findings about a name, which are found at its first entry
abbrev pub findings_about_names : List Finding
findings_about_names = Nostrong ∷ Unwanted ∷ []

-- ---- sets of findings

-- the bit of a finding in a set
abbrev pub bit_of : Finding → ℕ
bit_of Weak = 2 ^ 0
bit_of Hidden = 2 ^ 1
bit_of Same = 2 ^ 2
bit_of Clash = 2 ^ 3
bit_of Old = 2 ^ 4
bit_of Mode = 2 ^ 5
bit_of Size = 2 ^ 6
bit_of Aged = 2 ^ 7
bit_of Missing = 2 ^ 8
bit_of Empty = 2 ^ 9
bit_of Nostrong = 2 ^ 10
bit_of Unwanted = 2 ^ 11
bit_of User = 2 ^ 12
bit_of Unread = 2 ^ 13
bit_of Name = 2 ^ 14
bit_of Kvno = 2 ^ 15
bit_of Etype = 2 ^ 16

-- the set of no findings
abbrev pub none : FindingSet
none = record { bits = 0 }

-- the set of one finding, if it holds
abbrev pub only_if : Bool → Finding → FindingSet
only_if holds finding = record { bits = if holds then bit_of finding else 0 }

-- the findings of two sets together
abbrev pub joined : FindingSet → FindingSet → FindingSet
joined s t = record { bits = bit_or s.bits t.bits }

-- the findings of the first set that the second has not
abbrev pub without : FindingSet → FindingSet → FindingSet
without s t = record { bits = bit_and s.bits (2 ^ 32 - 1 - t.bits) }

-- a set has a finding
abbrev pub has : FindingSet → Finding → Bool
has s finding = not (bit_and s.bits (bit_of finding) == 0)

-- a set has a finding
abbrev pub has_some : FindingSet → Bool
has_some s = not (s.bits == 0)

-- a set with one finding more, if it holds
abbrev pub with_if : Bool → Finding → FindingSet → FindingSet
with_if holds finding s = joined s (only_if holds finding)

-- ---- what is found about an entry

-- the findings about an entry, and about its name, for which a test holds
abbrev pub set_of : (Finding → Bool) → FindingSet
set_of test = fold (λ s f. with_if (test f) f s) none (findings_about_entries ++ findings_about_names)
