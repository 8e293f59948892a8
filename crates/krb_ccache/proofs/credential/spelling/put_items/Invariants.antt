use Rattle.krb_ccache.proofs.Cited.{drop, flat_map, AllByRecursion, Left, typed_data, FitsTypedData, owned_list}
use Rattle.krb_ccache.proofs.credential.spelling.put_items.Given as goal

-- what is written and the items still to come are all the items
abbrev pub invariant-loop-kind : goal.invariant-loop-kind
invariant-loop-kind g l = record {
  fits : AllByRecursion FitsTypedData (owned_list (drop l.kind-index l.fn.items));
  left : Left (flat_map typed_data (owned_list l.fn.items)) (flat_map typed_data (owned_list (drop l.kind-index l.fn.items))) l.fn.pen l.pen;
}
