use Rattle.krb_c.proofs.Cited.{length, sym, ◌∙◌}
use Rattle.std.specs.Prelude.{◌+◌}
use Rattle.krb_c.specs.Lists.{items_in}
use Rattle.krb_c.proofs.ItemLemmas.{all_read}
use Rattle.krb_c.proofs.cache.lists.copied_items.Goals as goal

pub returns-then-is_empty-clause-ok : goal.returns-then-is_empty-clause-ok
returns-then-is_empty-clause-ok c =
    all_read _ (length c.args.bytes.now + 1) c.items.counter (items_in c.args.bytes.now) c.items.rest.now c.items-test.true (sym c.is_empty.ensures ∙ c.if-is_empty.true) c.items.invariant
