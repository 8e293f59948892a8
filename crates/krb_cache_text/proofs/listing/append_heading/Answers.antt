use Rattle.krb_cache_text.proofs.Cited.{codes, on_ok_weaker, gathered_three, gathered_then}
use Rattle.krb_cache_text.proofs.listing.append_heading.Goals as goal

pub returns : goal.returns
returns g c =
    let name = rw c.as_bytes.ensures.value at c.in_ok-append-2.ensures.ok in
    on_ok_weaker c.append-4.result (λ last.
    gathered_then _ _ _ (codes "Ticket cache: FILE:") _ c.in_ok-append.ensures.ok (gathered_then _ _ _ c.args.name.now _ name
    (gathered_three _ _ _ _ (codes "\nDefault principal: ") _ (codes "\n\nValid starting       Expires              Service principal\n") c.in_ok-append-3.ensures.ok c.in_ok-write_name.ensures.ok last))) c.append-4.ensures.ok
