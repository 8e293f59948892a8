use Rattle.krb_keytab.proofs.Cited.{subst, IsBytes}
use Rattle.krb_keytab.proofs.Rewrites.{rewrite_contents, rewrite_known}
use Rattle.krb_keytab.proofs.keytab.rewrite.rewritten_image.Goals as goal

pub returns-clause-contents : goal.returns-clause-contents
returns-clause-contents g c = rewrite_contents c.args.keytab.now.state c.spell_into.new.image.items c.rewrite_is_sound.ensures.sound c.spell_into.ensures (subst IsBytes c.deref.ensures.value c.bytes_fit.ensures)

pub returns-clause-known : goal.returns-clause-known
returns-clause-known g c = rewrite_known c.args.keytab.now.state c.spell_into.new.image.items c.args.len (rewrite_contents c.args.keytab.now.state c.spell_into.new.image.items c.rewrite_is_sound.ensures.sound c.spell_into.ensures (subst IsBytes c.deref.ensures.value c.bytes_fit.ensures)) c.spell_into.ensures c.requires.len
