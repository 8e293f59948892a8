use Rattle.krb_wire.proofs.Cited.{◌≡◌, ◌+◌, ◌^◌, ◌<◌, ◌↔◌, length, flat_map, AllByRecursion, Big, data32, IsLong, cc_principal}
use Rattle.krb_wire.proofs.spelling.cache.cc_principal_len.Given as goal

abbrev pub invariant-loop-component : goal.invariant-loop-component
invariant-loop-component g l = record {
  len : l.len + length (flat_map (data32 Big) l.component-iterator) ≡ length (cc_principal (g.N.Name.parts l.name));
  small : l.len < 2 ^ 64;
  long : AllByRecursion IsLong (g.N.Name.parts l.name).components ↔ AllByRecursion IsLong l.component-iterator;
}
