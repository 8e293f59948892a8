use Rattle.krb_names.proofs.Cited.{sym, rules}
use Rattle.krb_names.proofs.numbers.number_of.Goals as goal

-- the map after the call is the one that `entry` borrowed
pub returns : goal.returns
returns g c =
    let new = c.numbers-3-1.given.1 (sym c.in_ok-numbers.ensures.same_map) in
    record { is = search rules; updates = rw new (c.in_ok-numbers.ensures.update.0 c.or_insert.result.now) }
