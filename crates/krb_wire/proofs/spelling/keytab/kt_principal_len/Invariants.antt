use Rattle.krb_wire.proofs.Cited.{◌≡◌, ◌<◌, ◌+◌, ◌*◌, ◌^◌, ◌↔◌, length, flat_map, AllByRecursion, data16, IsShort, order_of, kt_principal}
use Rattle.krb_wire.proofs.spelling.keytab.kt_principal_len.Given as goal

abbrev pub invariant-loop-component : goal.invariant-loop-component
invariant-loop-component g l = record {
  len : l.len + length (flat_map (data16 (order_of l.fn.format)) l.component-iterator) ≡ length (kt_principal l.fn.format (g.N.Name.parts l.name));
  small : l.len + 65537 * length l.component-iterator < 2 ^ 33;
  short : AllByRecursion IsShort (g.N.Name.parts l.name).components ↔ AllByRecursion IsShort l.component-iterator;
}
