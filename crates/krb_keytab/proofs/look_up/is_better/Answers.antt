use Rattle.krb_keytab.proofs.Cited.{rules, ◌≡◌, ltb, ◌==◌}
use Rattle.krb_keytab.proofs.LookUpLemmas.{is_better, next_found}
use Rattle.krb_keytab.proofs.look_up.is_better.Goals as goal

pub returns-then-kvno-eq0 : goal.returns-then-kvno-eq0
returns-then-kvno-eq0 c = λ named xs x is so_far.
    let better : (c.args.kvno == 0) ≡ is_better c.args.kvno c.args.best.now c.args.version = search rules in
    next_found c.args.kvno named c.args.best.now xs x c.args.version (c.args.kvno == 0) is better so_far

pub returns-else-kvno-eq0 : goal.returns-else-kvno-eq0
returns-else-kvno-eq0 c = λ named xs x is so_far.
    let better : (c.args.version == c.args.kvno) ≡ is_better c.args.kvno c.args.best.now c.args.version = search rules in
    next_found c.args.kvno named c.args.best.now xs x c.args.version (c.args.version == c.args.kvno) is better so_far

pub returns-then-kvno-eq0-2 : goal.returns-then-kvno-eq0-2
returns-then-kvno-eq0-2 c = λ named xs x is so_far.
    let better : ltb c.kvno.result c.args.version ≡ is_better c.args.kvno c.args.best.now c.args.version = search rules in
    next_found c.args.kvno named c.args.best.now xs x c.args.version (ltb c.kvno.result c.args.version) is better so_far

pub returns-else-kvno-eq0-2 : goal.returns-else-kvno-eq0-2
returns-else-kvno-eq0-2 c = λ named xs x is so_far.
    let better : (c.args.kvno == 0) ≡ is_better c.args.kvno c.args.best.now c.args.version = search rules in
    next_found c.args.kvno named c.args.best.now xs x c.args.version (c.args.kvno == 0) is better so_far
