use Rattle.krb_ccache.proofs.Cited.{ℕ, List, ap, ◌∙◌, arith, is_some, credential_at}
use Rattle.krb_ccache.proofs.CellLemmas.{read_left}
use Rattle.krb_ccache.proofs.NewTexts.{first_text, live_text}
use Rattle.krb_ccache.proofs.new_image.next_text.Goals as goal

pub overflow_sub-bytes : goal.overflow_sub-bytes
overflow_sub-bytes c = search (arith, read_left)

pub around_second_enctype-requires : goal.around_second_enctype-requires
around_second_enctype-requires c =
    let f = first_text c.args.version c.args.bytes.now c.in_ok-credential.credential c.in_ok-credential.after.now c.bytes_fit.ensures c.in_ok-credential.ensures in
    ap (λ (b : List ℕ). is_some (credential_at c.args.version b)) c.split_at.ensures.front ∙ ap is_some f.again

pub returns-clause-some : goal.returns-clause-some
returns-clause-some c =
    let x = c.in_ok-credential.credential in
    let f = first_text c.args.version c.args.bytes.now x c.in_ok-credential.after.now c.bytes_fit.ensures c.in_ok-credential.ensures in
    record {
      cell = x;
      read = c.in_ok-credential.ensures;
      text = c.around_second_enctype.ensures x (ap (credential_at c.args.version) c.split_at.ensures.front ∙ f.again) ∙ live_text x (let a = c.is_marked.ensures in let d = c.if-is_marked.false in cc);
    }
