use Rattle.krb_wire.proofs.Cited.{List, ℕ, ◌++◌, ◌∙◌, get_or, refl, ap, arith, quoted_byte, quote}
use Rattle.krb_wire.proofs.QuoteLemmas.{quote_step}
use Rattle.krb_wire.proofs.quote.push_batch.Goals as goal

pub loop-byte-init : goal.loop-byte-init
unfolding quote
loop-byte-init g c = record { text = refl; room = omega arith }

pub loop-byte-preserved : goal.loop-byte-preserved
loop-byte-preserved g c =
    let put = c.put_quoted-len.ensures in
    let before = c.loop-byte.invariant in
    record {
      text = put.written ∙ ap (λ (t : List ℕ). t ++ quoted_byte (get_or c.args.batch.now c.loop-byte.byte-index 0)) before.text ∙ quote_step c.args.batch.now c.loop-byte.byte-index (omega arith);
      room = omega (arith, before.room, put.within);
    }
