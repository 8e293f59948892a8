use Rattle.krb_names.proofs.PatternLaws.{components, named}
use Rattle.krb_names.proofs.laws.patterns_without_star_are_names.Goals as goal

pub returns-clause-named : goal.returns-clause-named
returns-clause-named c = named

pub returns-clause-components : goal.returns-clause-components
returns-clause-components c = components
