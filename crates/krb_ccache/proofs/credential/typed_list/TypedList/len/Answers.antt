use Rattle.krb_ccache.proofs.Cited.{List, length, ap, ◌∙◌, length_held, TypedData, typed_data_at}
use Rattle.krb_ccache.proofs.credential.typed_list.TypedList.len.Goals as goal

pub returns : goal.returns
returns c = length_held typed_data_at c.self.inside.count c.self.inside.items.now c.self.invariant ∙ ap (λ (xs : List TypedData). length xs) c.self.view_is
