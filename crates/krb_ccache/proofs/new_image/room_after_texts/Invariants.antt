use Rattle.krb_ccache.proofs.Cited.{◌≡◌, ◌+◌, ◌≤◌, length, AreBytes, new_texts}
use Rattle.krb_ccache.proofs.new_image.room_after_texts.Given as goal

-- the room left by the texts so far, and the texts still to come
abbrev pub invariant-loop-first : goal.invariant-loop-first
invariant-loop-first l = record {
  within : l.room ≤ l.fn.room;
  left : l.room + length (new_texts l.version l.bytes) ≡ l.fn.room + length (new_texts l.version l.rest);
  fits : AreBytes l.rest;
}

abbrev pub decreases-loop-first : goal.decreases-loop-first
decreases-loop-first l = length l.rest
