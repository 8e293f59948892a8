use Rattle.krb_ccache.proofs.Cited.{◌≡◌, ◌++◌, owned_list}
use Rattle.krb_ccache.proofs.credential.copy_items.Given as goal

-- the items copied so far and those still to come are the list
abbrev pub invariant-loop-kind : goal.invariant-loop-kind
invariant-loop-kind g l = owned_list l.all.items ++ l.kind-iterator ≡ l.fn.list
