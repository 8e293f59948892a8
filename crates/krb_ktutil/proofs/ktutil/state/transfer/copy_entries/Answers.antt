use Rattle.krb_ktutil.proofs.ForAnswers.{ap, ◌∙◌, entries_of, all_entries}
use Rattle.krb_ktutil.proofs.ktutil.state.transfer.copy_entries.Goals as goal

pub entries-init : goal.entries-init
entries-init g c =
    rw c.new-copies.ensures.items
    (ap entries_of (c.into_iter-entry-iterator.ensures.into_iter_gives ∙ c.entries-entry-items.ensures) ∙ all_entries c.args.keytab.now.state)
