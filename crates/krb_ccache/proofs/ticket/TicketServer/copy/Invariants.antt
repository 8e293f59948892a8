use Rattle.krb_ccache.proofs.Cited.{◌≡◌, ◌++◌}
use Rattle.krb_wire.specs.Reading.{items_of}
use Rattle.krb_ccache.proofs.ticket.TicketServer.copy.Given as goal

abbrev pub invariant-strings : goal.invariant-strings
invariant-strings g l = items_of l.components.items ++ l.string-iterator ≡ l.fn.self.components
