use Rattle.std.proofs.Common.{◌≡◌, ◌++◌}
use Rattle.krb_disk.proofs.Pieces.{as_read}
use Rattle.krb_disk.specs.Content.{Begins}
use Rattle.krb_disk.proofs.calls.bring_back.has_old.Goals as goal

-- that of the file from its start on
pub returns : goal.returns
returns g c =
    let old = c.args.patch.before.now in
    let end = c.in-Some.end.now in
    as_read g.F.Read.remaining c.rewind.new.self c.has_bytes.result (λ left. left ≡ old ++ end) (Begins old) (λ left is. (end, is)) c.has_bytes.ensures
