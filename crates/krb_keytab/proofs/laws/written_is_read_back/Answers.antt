use Rattle.krb_keytab.proofs.WrittenLemmas.{written_spells, only_written}
use Rattle.krb_keytab.proofs.laws.written_is_read_back.Goals as goal

pub returns : goal.returns
returns c = λ f e n is fit. record { spelled = written_spells f e n fit is; only = λ x s. only_written f e x n fit is s }
