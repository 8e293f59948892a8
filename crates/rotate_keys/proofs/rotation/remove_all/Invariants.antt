use Rattle.std.proofs.Common.{◌≡◌, drop}
use Rattle.std.specs.Prelude.{Ok}
use Rattle.rotate_keys.specs.Rotation.{without}
use Rattle.rotate_keys.proofs.rotation.remove_all.Given as goal

-- removing what is left gives what removing all gives
abbrev pub invariant-places : goal.invariant-places
invariant-places g l = without (drop l.place-index l.places) (Ok l.keytab.state) ≡ without l.places (Ok l.fn.keytab.state)
