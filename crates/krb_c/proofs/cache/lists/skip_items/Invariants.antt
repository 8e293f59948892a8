use Rattle.std.specs.Prelude.{◌≡◌, ◌-◌}
use Rattle.krb_wire.specs.Reading.{list_end}
use Rattle.krb_ccache.specs.Credential.{typed_data_at}
use Rattle.krb_c.proofs.cache.lists.skip_items.Given as goal

abbrev pub invariant-loop : goal.invariant-loop
invariant-loop l = list_end typed_data_at (l.count - l.counter) l.rest ≡ list_end typed_data_at l.count l.bytes
