use Rattle.krb_ccache.proofs.Cited.{ℕ, sym, subst, length-map, Puts, puts_then, number32, owned_typed}
use Rattle.krb_ccache.proofs.credential.spelling.put_list.Goals as goal

pub returns : goal.returns
returns g c = puts_then (subst (λ (n : ℕ). Puts c.args.pen.now c.put_u32.new.self (number32 n)) (sym (length-map c.args.items.now owned_typed)) c.put_u32.ensures) c.put_items.ensures
