use Rattle.std.proofs.Common.{◌≡◌, ◌+◌, ◌∙◌, ℕ, List, ap, length, take, drop, arith}
use Rattle.krb_files.proofs.Reading.{read_after, written_back}
use Rattle.krb_files.proofs.reader.append_read.Goals as goal

pub returns-in-Ok-clause-given : goal.returns-in-Ok-clause-given
returns-in-Ok-clause-given g c =
    let read = c.read_into.new.bytes in
    let filled = c.len-filled.result in
    let is : filled ≡ length c.args.bytes.now.items = let ok = c.args.bytes.now.ok.0 in let len = c.len-filled.ensures in omega (arith, ok, len) in
    let len : c.resize.new.self.len ≡ length read = let auto = c.read_into.auto.bytes in let was = c.deref_mut.ensures.len in omega (arith, auto, was) in
    let front = c.read_into.ensures.front ∙ ap (take filled) c.deref_mut.ensures.value in (
      take c.in-Ok.count (drop filled read),
      c.truncate.ensures.items ∙ ap (λ (xs : List ℕ). take (filled + c.in-Ok.count) xs) (written_back c.resize.new.self.len read _ len)
          ∙ read_after c.args.bytes.now.items _ c.resize.new.self.items read filled c.args.most c.in-Ok.count _ is c.resize.ensures.items front,
      c.in-Ok.ensures.given,
    )
