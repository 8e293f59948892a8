use Rattle.krb_cache_text.proofs.Cited.{◌++◌, List, ℕ, sym, ap, ◌∙◌, err_from_is_err_and, passed_none, passed_gather, passed_send, gathers_memory, gathers_write, credential_lines, lines_of_credentials}
use Rattle.krb_cache_text.proofs.listing.list_credentials.Goals as goal

pub credentials-init : goal.credentials-init
credentials-init g c =
    let all = sym (ap (lines_of_credentials c.args.columns) (c.into_iter-credential-iterator.ensures.into_iter_gives ∙ c.credentials-credential-items.ensures)) in
    record {
      well = c.requires;
      passed = passed_none _ _ (lines_of_credentials c.args.columns c.into_iter-credential-iterator.result) c.args.gathered.now.items (ap (λ (t : List ℕ). c.args.gathered.now.items ++ t) all);
    }

pub returns-in_err-append_credential : goal.returns-in_err-append_credential
returns-in_err-append_credential g c =
    let p = err_from_is_err_and c.from_residual.result c.from_residual.ensures.1 in
    rw p.1 (gathers_memory _ _ _ _ _ _ _ _ c.credentials.invariant.passed c.credentials.invariant.well p.2)

-- what was sent if a write fails
pub returns-in_err-send_if_full : goal.returns-in_err-send_if_full
returns-in_err-send_if_full g c =
    let p = err_from_is_err_and c.from_residual-in_err-send_if_full.result c.from_residual-in_err-send_if_full.ensures.1 in
    let lines = rw (ap (lines_of_credentials c.args.columns) c.in-Some.ensures.steps) at c.credentials.invariant.passed in
    let passed = passed_gather _ _ _ (credential_lines c.args.columns c.in-Some.credential) (lines_of_credentials c.args.columns c.next.new.self) c.credentials.gathered.items _ lines c.in_ok-append_credential.ensures in
    let sent = c.in_err-send_if_full.ensures in
    rw p.1 (gathers_write _ _ _ _ _ _ _ _ _ passed sent.prefix sent.failed (p.2 ∙ sent.why))

pub credentials-preserved : goal.credentials-preserved
credentials-preserved g c =
    let lines = rw (ap (lines_of_credentials c.args.columns) c.in-Some.ensures.steps) at c.credentials.invariant.passed in
    let passed = passed_gather _ _ _ (credential_lines c.args.columns c.in-Some.credential) (lines_of_credentials c.args.columns c.next.new.self) c.credentials.gathered.items _ lines c.in_ok-append_credential.ensures in
    record {
      well = c.in_ok-send_if_full.ensures.failed;
      passed = passed_send _ _ _ _ _ _ _ passed c.in_ok-send_if_full.ensures.ok;
    }
