use Rattle.krb_readers.proofs.Cited.{ap, sym, ◌∙◌, Ok}
use Rattle.krb_readers.proofs.Options.{no_mistakes}
use Rattle.krb_readers.proofs.klist.overview.overview_json.Goals as goal

pub returns : goal.returns
returns g c = no_mistakes _ _ _ c.in_ok-refuse_odd_seconds.ensures c.in_ok-refuse_with_list.ensures ∙ ap Ok (sym c.flag.ensures)
