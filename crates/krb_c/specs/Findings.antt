-- What C sees of what is found about the entries of a keytab.
use Rattle.std.specs.Prelude.{ℕ, bit_or, List, map, if◌then◌else◌}
use Rattle.krb_keytab.specs.Store.{KeytabState}
use Rattle.krb_findings.specs.Table.{has}
use Rattle.krb_findings.specs.declared.finding.Finding.{Finding}
use Rattle.krb_findings.specs.declared.finding.Finding.TheVariants.{Weak, Size, Same, Clash, Old, Nostrong, Hidden}
use Rattle.krb_findings.specs.declared.finding_set.FindingSet.{FindingSet}
use Rattle.krb_audit.specs.Findings.{Marked, nothing_asked, reported}
use Rattle.krb_c.specs.declared.keytab.findings.KrbfFinding.{KrbfFinding}

-- a bit, if a set has a finding
abbrev pub bit_if : FindingSet → Finding → ℕ → ℕ
bit_if s finding bit = if has s finding then bit else 0

-- the bits that C sees of a set of findings
abbrev pub bits_of : FindingSet → ℕ
bits_of s = bit_or (bit_or (bit_or (bit_or (bit_or (bit_or (bit_if s Weak 1) (bit_if s Size 2)) (bit_if s Same 4)) (bit_if s Clash 8)) (bit_if s Old 16)) (bit_if s Nostrong 32)) (bit_if s Hidden 64)

-- what C sees of an entry about which something is found
abbrev pub seen : Marked → KrbfFinding
seen m = record { place = m.0.0; findings = bits_of m.1.findings }

-- what C sees of all such entries, in file order: what a check finds that is asked nothing more
abbrev pub all_seen : KeytabState → List KrbfFinding
all_seen k = map seen (reported nothing_asked k)
