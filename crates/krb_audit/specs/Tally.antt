-- How many entries and names have the findings of which the view for people counts.
use Rattle.std.specs.Prelude.{◌≡◌, ℕ, ◌+◌, List, length, filter}
use Rattle.krb_keytab.specs.Find.{PlacedEntry}
use Rattle.krb_keytab.specs.Store.{KeytabState}
use Rattle.krb_findings.specs.declared.finding.Finding.{Finding}
use Rattle.krb_findings.specs.declared.finding.Finding.TheVariants.{Weak, Old, Nostrong}
use Rattle.krb_audit.specs.declared.tally.Tally.{Tally}
use Rattle.krb_audit.specs.Findings.{found_count, is_found, nothing_asked}
use Rattle.krb_audit.specs.Ranks.{mapped_after}

-- the numbers of a keytab: how many entries are weak, and old, and how many names lack strong keys
abbrev pub tally_of : KeytabState → Tally
tally_of k = record { weak_entries = found_count k Weak; old_entries = found_count k Old; weak_names = found_count k Nostrong }

-- how many of the entries `rest` have a finding, after the entries `before`
abbrev pub count_after : KeytabState → List PlacedEntry → List PlacedEntry → Finding → ℕ
count_after k before rest finding = length (filter (λ b. b) (mapped_after (λ ys x. is_found nothing_asked k ys x finding) before rest))

-- the numbers so far, with those of the entries `rest` after the entries `before`, are those of all
pub record IsTallied (k : KeytabState) (before rest : List PlacedEntry) (t : Tally) : Type 0 where
  pub weak_entries : t.weak_entries + count_after k before rest Weak ≡ found_count k Weak
  pub old_entries : t.old_entries + count_after k before rest Old ≡ found_count k Old
  pub weak_names : t.weak_names + count_after k before rest Nostrong ≡ found_count k Nostrong
