use Rattle.krb_keytab.proofs.Cited.{length, rules, arith, record_in}
use Rattle.krb_keytab.proofs.ImageChanges.{hole_in, filled_is, as_many}
use Rattle.krb_keytab.proofs.replace.fill_hole.Goals as goal

pub put_record-requires : goal.put_record-requires
put_record-requires g c =
    let i = hole_in c.args.form.now.format c.args.image.now (length c.args.form.now.bytes) c.args.hole c.args.end c.bytes_fit.ensures c.requires.known.ends c.requires.hole in
    record { room = i.room; fits = i.large; some = i.some; small = omega (arith, i.room) }

pub returns : goal.returns
returns g c =
    let filled = filled_is c.args.form.now.format c.args.image.now c.put_record.new.image c.args.form.now.bytes c.args.hole c.args.end c.requires.known.within c.requires.known.small c.bytes_fit.ensures (λ i. omega (arith, c.type_inv.image i)) c.requires.known.ends c.len.ensures.record c.requires.hole c.put_record.ensures in
    record {
      len = search rules;
      count = as_many c.args.form.now.format c.args.image.now c.put_record.new.image (record_in c.args.form.now.bytes) c.args.hole.place _ c.args.end filled;
      changed = filled;
    }
