use Rattle.krb_ccache.proofs.Cited.{past_held, held_has_end, held_has_one, held, typed_data_at}
use Rattle.krb_ccache.proofs.credential.typed_list.item_at.Goals as goal

pub returns-then-i-count : goal.returns-then-i-count
returns-then-i-count c = past_held typed_data_at c.args.count c.args.items.now c.args.i c.requires c.if-i-count.true

pub returns-in_err-rest : goal.returns-in_err-rest
returns-in_err-rest c = absurd (held_has_end typed_data_at c.args.count c.args.items.now c.args.i c.requires c.if-i-count.false c.in_err-rest.ensures)

pub returns-in_err-item : goal.returns-in_err-item
returns-in_err-item c = absurd (held_has_one typed_data_at c.args.count c.args.items.now c.args.i c.in_ok-rest.rest.now c.requires c.if-i-count.false c.in_ok-rest.ensures c.in_err-item.ensures)

pub returns : goal.returns
returns c = held typed_data_at c.args.count c.args.items.now c.args.i c.in_ok-rest.rest.now _ _ c.requires c.if-i-count.false c.in_ok-rest.ensures c.in_ok-item.ensures
