use Rattle.krb_ccache.proofs.Cited.{◌^◌, ◌<◌, subst}
use Rattle.krb_ccache.proofs.SpellingLemmas.{spelled_fits}
use Rattle.krb_ccache.proofs.preamble.preamble_len.Goals as goal

pub returns-clause-fits : goal.returns-clause-fits
returns-clause-fits g c =
    spelled_fits (g.N.Name.parts c.args.principal.now) c.in_ok-len.ensures.some (subst (λ n. n < 2 ^ 32) c.name_type-name_type.ensures c.name_type-name_type.type_inv)
