use Rattle.krb_ccache.proofs.Cited.{◌≡◌, drop, without}
use Rattle.krb_ccache.proofs.ccache.Ccache.remove_all.Given as goal

-- the removals still to come leave what all of them leave
abbrev pub invariant-loop-place : goal.invariant-loop-place
invariant-loop-place g l = record {
  left : without l.self.state (drop l.place-index l.places) ≡ without l.fn.self.state l.places;
  room : l.self.room ≡ l.fn.self.room;
}
