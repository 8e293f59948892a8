use Rattle.std.proofs.Common.{◌++◌, ◌≡◌}
use Rattle.krb_disk.proofs.Pieces.{as_read}
use Rattle.krb_disk.proofs.snapshot.leads_to.Goals as goal

-- that of the file that was opened
pub returns : goal.returns
returns g c =
    let bytes = c.args.bytes.front.now ++ c.args.bytes.end.now in
    as_read g.R.File.Read.remaining c.in-Some.opened.file c.has_bytes.result (λ left. left ≡ bytes) (λ left. left ≡ bytes) (λ left is. is) c.has_bytes.ensures
