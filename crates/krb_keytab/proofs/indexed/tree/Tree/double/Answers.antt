-- The old leaves are after the nodes over twice as many.
use Rattle.krb_keytab.proofs.Cited.{◌≡◌, ◌*◌, ◌^◌, drop, length, ap, sym, ◌∙◌, SizeTree}
use Rattle.krb_keytab.proofs.SizeLemmas.{doubled}
use Rattle.krb_keytab.proofs.indexed.tree.Tree.double.Goals as goal

pub returns-clause-sizes : goal.returns-clause-sizes
returns-clause-sizes g c =
    let same = ap (λ (t : SizeTree). t.height) c.self.view_is in
    let power : c.leaves-leaves.result ≡ 2 ^ c.self.inside.height = c.leaves-leaves.ensures.power ∙ ap (λ n. 2 ^ n) (sym same) in
    let sizes : c.args.self.now.sizes ≡ drop c.leaves-leaves.result c.self.inside.nodes.items =
    sym (ap (λ (t : SizeTree). t.sizes) c.self.view_is) ∙ ap (λ n. drop n c.self.inside.nodes.items) (sym power) in
    let len : length c.self.inside.nodes.items ≡ 2 * c.leaves-leaves.result = c.self.invariant.len ∙ ap (λ n. 2 * n) (sym power) in
    doubled _ _ _ _ _ _ _ _ _ power sizes len c.add_zeros.ensures.items c.deref_mut.ensures.value c.spread.ensures.len c.deref_mut.ensures.len c.spread.ensures.leaves
