use Rattle.krb_keytab_text.proofs.Cited.{drop, map, Left, content_of, reply_texts_by}
use Rattle.krb_keytab_text.proofs.reply.append_replies.Given as goal

abbrev pub invariant-replies : goal.invariant-replies
invariant-replies g l =
    Left (reply_texts_by g.F.RecordFormat.tail_of g.F.RecordFormat.rewritten l.fn.format (map content_of l.replies))
    (reply_texts_by g.F.RecordFormat.tail_of g.F.RecordFormat.rewritten l.now (map content_of (drop l.reply-index l.replies))) l.fn.out l.out
