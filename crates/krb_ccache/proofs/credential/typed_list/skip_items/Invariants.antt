use Rattle.krb_ccache.proofs.Cited.{◌≡◌, ◌-◌, list_end, typed_data_at}
use Rattle.krb_ccache.proofs.credential.typed_list.skip_items.Given as goal

abbrev pub invariant-loop : goal.invariant-loop
invariant-loop l = list_end typed_data_at (l.count - l.counter) l.rest ≡ list_end typed_data_at l.count l.bytes
