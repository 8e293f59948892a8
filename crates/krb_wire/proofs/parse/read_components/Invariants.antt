use Rattle.krb_wire.proofs.Cited.{◌≡◌, ◌++◌, length, items_of, atoms, components_of}
use Rattle.krb_wire.proofs.parse.read_components.Given as goal

abbrev pub invariant-loop-all : goal.invariant-loop-all
invariant-loop-all g l = items_of l.all.items ++ components_of (atoms l.rest) ≡ components_of (atoms l.fn.text)

abbrev pub decreases-loop-all : goal.decreases-loop-all
decreases-loop-all g l = length l.rest
