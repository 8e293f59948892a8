use Rattle.krb_match.proofs.ForAnswers.{arith, None, fitting_of, newest_version, named, newest_is, no_etypes, not_opened, some_etypes}
use Rattle.krb_match.proofs.keys.Keys.judge_number.Goals as goal

pub returns-then-is_empty : goal.returns-then-is_empty
returns-then-is_empty g c = λ xs p keys number.
    let etypes = c.etypes-etypes.ensures (fitting_of c.asked_version-asked.result None (named p xs)) (c.fitting.ensures xs p keys number) in
    let why = not_opened xs p c.args.number c.args.self.now keys number c.args.encryption c.asked_version-asked.result c.entry_etype.result c.etypes-etypes.result c.opener.result c.asked_version-asked.ensures c.entry_etype.ensures (c.opener.ensures xs p keys number) c.in_default.is etypes in
    grind (arith, why, c.newest.ensures, newest_is xs p c.args.number c.args.self.now keys number, no_etypes (newest_version (named p xs)) c.etypes-etypes.result)

pub returns : goal.returns
returns g c = λ xs p keys number.
    let etypes = c.etypes-etypes.ensures (fitting_of c.asked_version-asked.result None (named p xs)) (c.fitting.ensures xs p keys number) in
    let why = not_opened xs p c.args.number c.args.self.now keys number c.args.encryption c.asked_version-asked.result c.entry_etype.result c.etypes-etypes.result c.opener.result c.asked_version-asked.ensures c.entry_etype.ensures (c.opener.ensures xs p keys number) c.in_default.is etypes in
    grind (arith, why, some_etypes (newest_version (named p xs)) c.etypes-etypes.result)
