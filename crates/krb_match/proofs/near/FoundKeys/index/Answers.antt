use Rattle.krb_match.proofs.ForAnswers.{◌∙◌, ap, arith, bytes_eq, position_from, vec_items, found_mapped, none_found}
use Rattle.krb_match.proofs.near.FoundKeys.index.Goals as goal

pub returns-then-not-contains : goal.returns-then-not-contains
returns-then-not-contains g c = λ keys f. none_found (bytes_eq c.args.key.now) 0 keys (let same = f.set c.args.key.now in grind (arith, same))

pub returns : goal.returns
returns g c = λ keys f.
    c.position_of.ensures ∙ found_mapped vec_items (bytes_eq c.args.key.now) 0 c.args.self.now.keys.now ∙ ap (position_from (bytes_eq c.args.key.now) 0) f.keys_are
