-- Names that are the same are so in both directions and over three names.
use Rattle.std.specs.Cmp.{IsEquivalence}
use Rattle.std.proofs.lemmas.Cmp.{on_equiv, and_equiv, lists_equiv, nat_list_eq_equiv}
use Rattle.krb_wire.specs.Names.{have_same_name}
use Rattle.krb_wire.specs.Spelling.{Parts}

pub same_equiv : IsEquivalence have_same_name
same_equiv = and_equiv (on_equiv (λ (p : Parts). p.realm) nat_list_eq_equiv) (on_equiv (λ (p : Parts). p.components) (lists_equiv nat_list_eq_equiv))
