-- The lines of a keytab while they are gathered.
use Rattle.std.specs.Prelude.{◌≡◌, List}
use Rattle.krb_keytab.specs.Find.{PlacedEntry, placed_entries}
use Rattle.krb_keytab.specs.Store.{KeytabState}
use Rattle.krb_audit.specs.Ranks.{mapped_after, rank_of}
use Rattle.krb_audit.specs.Tally.{IsTallied}
use Rattle.krb_show.specs.declared.lines.SoFar.{SoFar}
use Rattle.krb_show.specs.KeytabView.{lines_from, lines_of}

-- the lines so far, and those of the entries `rest`, are the lines of all; likewise the numbers
pub record AreSoFar {A : Type 0} (k : KeytabState) (rest : List PlacedEntry) (s : SoFar A) : Type 0 where
  pub before : List PlacedEntry
  pub ranks : s.ranks ≡ mapped_after (rank_of (placed_entries k)) before rest
  pub tally : IsTallied k before rest s.tally
  pub lines : lines_from (placed_entries k) s.lines.entries rest ≡ lines_of (placed_entries k)
