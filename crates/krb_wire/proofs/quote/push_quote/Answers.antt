use Rattle.std.proofs.Common.{rules}
use Rattle.krb_wire.proofs.QuoteLemmas.{quote_plain}
use Rattle.krb_wire.proofs.quote.push_quote.Goals as goal

pub returns-then-is_plain_text : goal.returns-then-is_plain_text
returns-then-is_plain_text g c = rw (quote_plain c.args.bytes.now (search rules)) (search rules)
