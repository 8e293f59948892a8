use Rattle.krb_ccache.proofs.Cited.{◌≡◌, subst, arith, w32, cast_unsigned, Puts, puts_then}
use Rattle.std.proofs.lemmas.Int.{to_z-of_z}
use Rattle.krb_ccache.proofs.PreambleLemmas.{offset_text}
use Rattle.krb_ccache.proofs.preamble.put_header.Goals as goal

pub returns : goal.returns
returns c =
    let s_is : c.cast_unsigned.result ≡ cast_unsigned w32 c.in-Some.offset.seconds = grind (arith, to_z-of_z) in
    let m_is : c.cast_unsigned-2.result ≡ cast_unsigned w32 c.in-Some.offset.micros = grind (arith, to_z-of_z) in
    subst (Puts c.args.pen.now c.put_u32-2.new.self) (offset_text c.args.offset c.in-Some.offset c.cast_unsigned.result c.cast_unsigned-2.result c.in-Some.is s_is m_is)
    (puts_then c.put_u16-2.ensures (puts_then c.put_u16-3.ensures (puts_then c.put_u16-4.ensures (puts_then c.put_u32.ensures c.put_u32-2.ensures))))
