use Rattle.krb_keytab.proofs.Cited.{subst, KtFormat}
use Rattle.krb_keytab.specs.LookUp.{IsPrefix}
use Rattle.krb_keytab.proofs.keytab.Keytab.find.Goals as goal

pub consider_all-requires : goal.consider_all-requires
consider_all-requires g c =
    subst (λ (f : KtFormat). IsPrefix f (g.N.Name.parts c.args.name.now) c.prefix_of-prefix.result.now) c.format.ensures c.prefix_of-prefix.ensures
