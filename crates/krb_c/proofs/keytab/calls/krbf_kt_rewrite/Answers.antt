use Rattle.std.proofs.Common.{rules, ap, subst, ◌∙◌}
use Rattle.krb_keytab.specs.Store.{image_of}
use Rattle.krb_keytab.specs.Laws.{AreBytes}
use Rattle.krb_keytab.proofs.Rewrites.{rewritten_keeps}
use Rattle.krb_c.proofs.keytab.calls.krbf_kt_rewrite.Goals as goal

pub returns-clause-entries : goal.returns-clause-entries
returns-clause-entries c = λ done.
    let bytes = subst AreBytes (c.image-bytes.ensures.spelled ∙ ap (λ k. image_of k.state) (c.deref.ensures ∙ c.store.ensures)) c.image-bytes.ensures.bytes in
    let kept = rewritten_keeps c.keytab-keytab.result.now.state c.rewrite-answer.new.self.state bytes (c.rewrite-answer.ensures.done done) in
    search rules
