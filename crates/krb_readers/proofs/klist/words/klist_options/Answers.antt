use Rattle.krb_readers.proofs.Options.{no_mistakes}
use Rattle.krb_readers.proofs.klist.words.klist_options.Goals as goal

pub returns : goal.returns
returns g c = rw (c.list_kind.ensures, c.v1_order.ensures, c.flag.ensures) (no_mistakes _ _ _ c.in_ok-refuse_odd_seconds.ensures c.in_ok-refuse_odd_option.ensures)
