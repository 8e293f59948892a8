use Rattle.krb_keytab_text.proofs.Cited.{map, ap, err_from_is_err_and, left_next, left_fails, content_of, reply_texts_by}
use Rattle.krb_keytab_text.proofs.Items.{drop_item}
use Rattle.krb_keytab_text.proofs.reply.append_replies.Goals as goal

pub returns-in_err-append_reply : goal.returns-in_err-append_reply
returns-in_err-append_reply g c =
    let p = err_from_is_err_and c.from_residual.result c.from_residual.ensures.1 in
    let next = ap (map content_of) (drop_item c.args.replies.now c.replies.reply-index c.reply-item.result c.replies-test.true c.reply-item.is) in
    rw p.1 (left_fails _ _ _ _ _ _ _ _ _ c.replies.invariant (ap (reply_texts_by g.F.RecordFormat.tail_of g.F.RecordFormat.rewritten c.replies.now) next) c.in_err-append_reply.ensures)

pub replies-preserved : goal.replies-preserved
replies-preserved g c =
    let next = ap (map content_of) (drop_item c.args.replies.now c.replies.reply-index c.reply-item.result c.replies-test.true c.reply-item.is) in
    rw c.format_after-now.ensures (left_next _ _ _ _ _ _ _ c.replies.invariant (ap (reply_texts_by g.F.RecordFormat.tail_of g.F.RecordFormat.rewritten c.replies.now) next) c.in_ok-append_reply.ensures)
