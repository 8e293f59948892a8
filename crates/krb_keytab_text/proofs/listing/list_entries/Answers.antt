use Rattle.krb_keytab_text.proofs.Cited.{◌++◌, List, ℕ, sym, ap, ◌∙◌, err_from_is_err_and, entry_line}
use Rattle.krb_text.proofs.Passing.{passed_none, passed_gather, passed_send, gathers_memory, gathers_write}
use Rattle.krb_keytab_text.proofs.Lines.{lines_of, all_lines}
use Rattle.krb_keytab_text.proofs.listing.list_entries.Goals as goal

pub entries-init : goal.entries-init
entries-init g c =
    let all = sym (ap (lines_of c.args.columns) (c.into_iter-entry-iterator.ensures.into_iter_gives ∙ c.entries-entry-items.ensures) ∙ all_lines c.args.columns c.args.keytab.now.state) in
    record {
      well = c.requires;
      passed = passed_none _ _ (lines_of c.args.columns c.into_iter-entry-iterator.result) c.args.gathered.now.items (ap (λ (t : List ℕ). c.args.gathered.now.items ++ t) all);
    }

pub returns-in_err-append_entry : goal.returns-in_err-append_entry
returns-in_err-append_entry g c =
    let p = err_from_is_err_and c.from_residual.result c.from_residual.ensures.1 in
    rw p.1 (gathers_memory _ _ _ _ _ _ _ _ c.entries.invariant.passed c.entries.invariant.well p.2)

-- what was sent when a write fails
pub returns-in_err-send_if_full : goal.returns-in_err-send_if_full
returns-in_err-send_if_full g c =
    let p = err_from_is_err_and c.from_residual-in_err-send_if_full.result c.from_residual-in_err-send_if_full.ensures.1 in
    let lines = rw (ap (lines_of c.args.columns) c.in-Some.ensures.steps) at c.entries.invariant.passed in
    let passed = passed_gather _ _ _ (entry_line c.args.columns c.in-Some.entry) (lines_of c.args.columns c.next.new.self) c.entries.gathered.items _ lines (rw c.fields.ensures.is at c.in_ok-append_entry.ensures) in
    let sent = c.in_err-send_if_full.ensures in
    rw p.1 (gathers_write _ _ _ _ _ _ _ _ _ passed sent.prefix sent.failed (p.2 ∙ sent.why))

pub entries-preserved : goal.entries-preserved
entries-preserved g c =
    let lines = rw (ap (lines_of c.args.columns) c.in-Some.ensures.steps) at c.entries.invariant.passed in
    let passed = passed_gather _ _ _ (entry_line c.args.columns c.in-Some.entry) (lines_of c.args.columns c.next.new.self) c.entries.gathered.items _ lines (rw c.fields.ensures.is at c.in_ok-append_entry.ensures) in
    record {
      well = c.in_ok-send_if_full.ensures.failed;
      passed = passed_send _ _ _ _ _ _ _ passed c.in_ok-send_if_full.ensures.ok;
    }
