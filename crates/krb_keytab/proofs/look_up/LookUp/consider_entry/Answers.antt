use Rattle.krb_keytab.proofs.Cited.{true, false, sym, filter, PlacedEntry, is_match, arith}
use Rattle.krb_keytab.proofs.LookUpLemmas.{no_match, one_match, match_by_enctype}
use Rattle.krb_keytab.proofs.look_up.LookUp.consider_entry.Goals as goal

pub returns-then-not-has_enctype : goal.returns-then-not-has_enctype
returns-then-not-has_enctype c = search (arith, no_match, match_by_enctype)

pub returns-then-is_better : goal.returns-then-is_better
returns-then-is_better c = λ n xs same so_far.
    let x : PlacedEntry = (c.args.place, c.args.entry) in
    let next = c.if-is_better.ensures c.args.self.now.named (filter (is_match n c.args.enctype) xs) x (sym c.kvno.ensures) so_far in
    one_match n c.args.kvno c.args.enctype xs x true c.args.self.now.best (match_by_enctype n c.args.enctype x true same c.if-not-has_enctype.ensures) next

pub returns-else-is_better : goal.returns-else-is_better
returns-else-is_better c = λ n xs same so_far.
    let x : PlacedEntry = (c.args.place, c.args.entry) in
    let next = c.if-is_better.ensures c.args.self.now.named (filter (is_match n c.args.enctype) xs) x (sym c.kvno.ensures) so_far in
    one_match n c.args.kvno c.args.enctype xs x false c.args.self.now.best (match_by_enctype n c.args.enctype x true same c.if-not-has_enctype.ensures) next
