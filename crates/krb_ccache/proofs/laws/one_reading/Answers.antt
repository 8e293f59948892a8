use Rattle.krb_ccache.proofs.Cited.{contents_spelled, contents_behind, contents_again, credentials_format}
use Rattle.krb_ccache.proofs.CellLemmas.{credentials_are, all_cells}
use Rattle.krb_ccache.proofs.laws.one_reading.Goals as goal

pub returns-clause-spelled : goal.returns-clause-spelled
returns-clause-spelled c = λ v bytes fits. contents_spelled (credentials_format v) bytes (credentials_are v) fits

pub returns-clause-longest : goal.returns-clause-longest
returns-clause-longest c = λ v cells rest fit fits. contents_behind (credentials_format v) cells rest (credentials_are v) (all_cells v cells fit) fits

pub returns-clause-only : goal.returns-clause-only
returns-clause-only c = λ v k sound fits. contents_again (credentials_format v) k (credentials_are v) sound fits
