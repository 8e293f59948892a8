use Rattle.krb_audit.proofs.Cited.{List, [], ◌++◌, true, false, refl, ap, sym, subst, arith, ◌∙◌, PlacedEntry, placed_entries, CheckAsked, Marked, reported}
use Rattle.krb_audit.proofs.FindingsLemmas.{IsCheckedUpTo, all_before, entries_few, one_checked}
use Rattle.krb_audit.proofs.RankLemmas.{mapped_len}
use Rattle.krb_audit.proofs.findings.check_entries.Goals as goal

pub overflow_cast-count : goal.overflow_cast-count
overflow_cast-count g c = search (arith, mapped_len, entries_few)

pub returns-clause-count : goal.returns-clause-count
returns-clause-count g c = search (arith, mapped_len)

pub entries-init : goal.entries-init
entries-init g c =
    let k = c.args.keytab.now.state in
    let asked = c.args.asked.now in
    let known = c.first-before.ensures k asked.wanted c.in_ok-ranks.ensures (rw (ap (λ (a : CheckAsked). a.wanted) c.asked.view_is) at c.in_ok-names.ensures) in
    subst (λ (xs : List PlacedEntry). IsCheckedUpTo asked k xs c.first-before.result c.new-entries.result.items) (sym (c.into_iter-place-iterator.ensures.into_iter_gives ∙ c.entries-place-items.ensures)) (record {
      before = [];
      known = known;
      entries_are = ap (λ (es : List Marked). es ++ reported asked k) c.new-entries.ensures.items;
    })

pub entries-preserved-in-Continue-branch-4 : goal.entries-preserved-in-Continue-branch-4
entries-preserved-in-Continue-branch-4 g c =
    let k = c.args.keytab.now.state in
    let asked = c.args.asked.now in
    let was = subst (λ (xs : List PlacedEntry). IsCheckedUpTo asked k xs c.entries.before c.entries.entries.items) c.in-Some.ensures.steps c.entries.invariant in
    one_checked asked k _ _ _ _ _ _ _ true was (λ before known. c.in_ok-marks.ensures k before _ known) (sym c.has_some.ensures ∙ c.if-has_some.true) c.in_ok-push.ensures.items

pub entries-preserved : goal.entries-preserved
entries-preserved g c =
    let k = c.args.keytab.now.state in
    let asked = c.args.asked.now in
    let was = subst (λ (xs : List PlacedEntry). IsCheckedUpTo asked k xs c.entries.before c.entries.entries.items) c.in-Some.ensures.steps c.entries.invariant in
    one_checked asked k _ _ _ _ _ _ _ false was (λ before known. c.in_ok-marks.ensures k before _ known) (sym c.has_some.ensures ∙ c.if-has_some.false) refl

pub returns-clause-missing : goal.returns-clause-missing
returns-clause-missing g c =
    let k = c.args.keytab.now.state in
    let asked = c.args.asked.now in
    let done = subst (λ (xs : List PlacedEntry). IsCheckedUpTo asked k xs c.entries.before c.entries.entries.items) c.in-None.ensures.steps.0 c.entries.invariant in
    (rw (ap (λ (a : CheckAsked). a.wanted) c.asked.view_is) at c.in_ok-missing.ensures) (placed_entries k) (all_before asked k c.entries.before c.entries.entries.items done).missing
