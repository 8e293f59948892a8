use Rattle.krb_audit.proofs.Cited.{flat_map, finding_lines, name_line}
use Rattle.std.proofs.lemmas.Result.{on_ok_weaker}
use Rattle.krb_text.proofs.Passing.{gathered_then}
use Rattle.krb_findings.specs.declared.finding.Finding.TheVariants.{Nostrong, Unwanted}
use Rattle.krb_audit.specs.Report.{empty_line, labelled_fault, missing_lines, mode_line}
use Rattle.krb_audit.proofs.report.append_report.Goals as goal

pub returns : goal.returns
returns g c =
    let found = c.args.found.now in
    let label = c.args.label.now in
    let left_out = c.args.left_out in
    on_ok_weaker c.append_counts.result (λ last.
    gathered_then _ _ _ (mode_line label left_out found.mode) _ (rw c.mode.ensures at c.in_ok-append_mode.ensures) (gathered_then _ _ _ (flat_map (finding_lines label left_out) found.entries) _ (rw c.entries.ensures at c.in_ok-append_entries.ensures)
    (gathered_then _ _ _ (flat_map (name_line label left_out Nostrong) found.entries) _ (rw c.entries-2.ensures at c.in_ok-append_names.ensures) (gathered_then _ _ _ (empty_line label left_out found.is_empty) _ (rw c.is_empty.ensures at c.in_ok-append_empty.ensures)
    (gathered_then _ _ _ (missing_lines label left_out found.missing) _ (rw c.missing.ensures at c.in_ok-append_missing.ensures) (gathered_then _ _ _ (flat_map (name_line label left_out Unwanted) found.entries) _ (rw c.entries-3.ensures at c.in_ok-append_names-2.ensures)
    (gathered_then _ _ _ (labelled_fault label found.fault) _ (rw c.fault.ensures at c.in_ok-append_fault.ensures) last))))))) (rw c.counts.ensures at c.append_counts.ensures)
