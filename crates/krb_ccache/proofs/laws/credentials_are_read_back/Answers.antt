use Rattle.krb_ccache.proofs.CredentialField.{credential_field, same_spelling}
use Rattle.krb_ccache.proofs.laws.credentials_are_read_back.Goals as goal

pub returns-clause-read : goal.returns-clause-read
returns-clause-read c = λ v x rest fits. (credential_field v).again x rest fits

pub returns-clause-own : goal.returns-clause-own
returns-clause-own c = λ v x y fit_x fit_y same. same_spelling v x y fit_x fit_y same
