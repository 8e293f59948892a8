use Rattle.krb_keytab.proofs.Cited.{subst, IsBytes}
use Rattle.krb_keytab.proofs.Rewrites.{new_sound, entries_kept}
use Rattle.krb_keytab.proofs.keytab.rewrite.rewrite_is_sound.Goals as goal

pub returns : goal.returns
returns g c =
    let k = c.args.keytab.now.state in
    record {
      was = c.image.ensures.sound;
      sound = record { cells = new_sound k c.image.result.now c.image.ensures.sound c.image.ensures.spelled c.bytes_fit.ensures c.requires; end = tt };
      entries = entries_kept k (subst IsBytes c.image.ensures.spelled c.bytes_fit.ensures);
    }
