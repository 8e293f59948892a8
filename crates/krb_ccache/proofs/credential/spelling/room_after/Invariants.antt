use Rattle.krb_ccache.proofs.Cited.{◌≡◌, ◌+◌, ◌≤◌, length, drop, flat_map, AllByRecursion, typed_data, FitsTypedData, owned_list}
use Rattle.krb_ccache.proofs.credential.spelling.room_after.Given as goal

-- the room left by the items so far, and the items still to come
abbrev pub invariant-loop-kind : goal.invariant-loop-kind
invariant-loop-kind g l = record {
  within : l.room ≤ l.fn.room;
  left : l.room + length (flat_map typed_data (owned_list l.fn.items)) ≡ l.fn.room + length (flat_map typed_data (owned_list (drop l.kind-index l.fn.items)));
  fits : AllByRecursion FitsTypedData (owned_list (drop l.kind-index l.fn.items)) → AllByRecursion FitsTypedData (owned_list l.fn.items);
}
