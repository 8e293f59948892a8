use Rattle.krb_show.proofs.Cited.{codes, gathered_then, on_ok_weaker, name_text}
use Rattle.krb_show.proofs.cache.append_title.Goals as goal

pub returns : goal.returns
returns g c =
    on_ok_weaker c.append_counted.result (λ last.
    gathered_then _ _ _ c.args.name.now _ c.in_ok-append.ensures.ok (gathered_then _ _ _ (codes ": cache of ") _ c.in_ok-append-2.ensures.ok
    (gathered_then _ _ _ (name_text c.args.principal.now) _ c.in_ok-write_name.ensures.ok (gathered_then _ _ _ (codes ", ") _ c.in_ok-append-3.ensures.ok
    last)))) c.append_counted.ensures
