use Rattle.krb_c.proofs.Cited.{◌≡◌}
use Rattle.krb_ccache.specs.Credential.{owned_list}
use Rattle.krb_c.specs.Lists.{items_in}
use Rattle.krb_c.proofs.ItemLemmas.{joined}
use Rattle.krb_c.proofs.cache.lists.copied_items.Given as goal

-- the items so far, and those of the rest, are those of all
abbrev pub invariant-items : goal.invariant-items
invariant-items l = joined (owned_list l.items.items) l.end l.counter l.rest ≡ items_in l.bytes
