use Rattle.krb_ccache.proofs.Cited.{length, Left, AreBytes, new_texts}
use Rattle.krb_ccache.proofs.new_image.put_texts.Given as goal

-- what is written and the texts still to come are all the texts
abbrev pub invariant-loop-first : goal.invariant-loop-first
invariant-loop-first l = record {
  left : Left (new_texts l.version l.bytes) (new_texts l.version l.rest) l.fn.pen l.pen;
  fits : AreBytes l.rest;
}

abbrev pub decreases-loop-first : goal.decreases-loop-first
decreases-loop-first l = length l.rest
