use Rattle.std.proofs.Common.{◌≡◌, ◌↔◌}
use Rattle.krb_ccache.proofs.ticket.are_same.Given as goal

-- the rest is the same exactly if all is
abbrev pub invariant-components : goal.invariant-components
invariant-components g l = (l.strings ≡ l.component-iterator) ↔ (l.fn.strings ≡ l.fn.components)
