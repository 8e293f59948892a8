-- What is behind a handle, what is written through a reference to it, and what calls do with it.
use Rattle.std.specs.Prelude.{Option, Some, None, ◌≡◌, IsSomeAnd, option_and_then}
use Rattle.std.specs.Borrow.{Lends, MutBor, Fml}
use mathlib.Core.List.{List, [], ◌∷◌}
use denote.RattleType.{RattleType}
use denote.Enum.Declared.{shape}
use Rattle.krb_keytab.specs.Store.{KeytabState, InMemory as KeytabInMemory}
use Rattle.krb_ccache.specs.Store.{CacheState}
use Rattle.krb_ccache.specs.Open.{InMemory as CacheInMemory}
use Rattle.krb_c.specs.declared.held.Held.{Held}
use Rattle.krb_c.specs.declared.held.Held.TheVariants.{Keytab, Cache}
use Rattle.krb_c.specs.contracts.held.Held.{the_row, the_type}
use Rattle.krb_c.specs.declared.handle.Handle.{Handle}

-- the keytab that it is
abbrev pub keytab_in : Held → Option KeytabState
keytab_in (Keytab k) = Some k.state
keytab_in (Cache c) = None

-- the cache that it is
abbrev pub cache_in : Held → Option CacheState
cache_in (Keytab k) = None
cache_in (Cache c) = Some c.state

-- the types of the fields of the two variants, which have one each
abbrev first : List (List RattleType) → RattleType
first ((row ∷ []) ∷ (other ∷ []) ∷ []) = row
first rows = the_row

abbrev second : List (List RattleType) → RattleType
second ((other ∷ []) ∷ (row ∷ []) ∷ []) = row
second rows = the_row

-- its final value is the keytab that r ends with
abbrev pub LendsKeytab : MutBor Held → MutBor KeytabInMemory → Fml
LendsKeytab held r = Lends the_row (first (shape the_type).variants) held r Keytab

-- its final value is the cache that r ends with
abbrev pub LendsCache : MutBor Held → MutBor CacheInMemory → Fml
LendsCache held r = Lends the_row (second (shape the_type).variants) held r Cache

-- ---- what calls do with it

-- the keytab that C holds
abbrev pub keytab_of : Handle → Option KeytabState
keytab_of kt = option_and_then keytab_in kt.held

-- the cache that C holds
abbrev pub cache_of : Handle → Option CacheState
cache_of cc = option_and_then cache_in cc.held

-- what is behind it stays the same, and P holds of it
abbrev pub Looks : {S : Type 0} → Option S → Option S → (S → Type 0) → Type 0
Looks old new P = (new ≡ old) × IsSomeAnd old P

-- something is behind it before and after the call, and P holds of both
abbrev pub Over : {S : Type 0} → Option S → Option S → (S → S → Type 0) → Type 0
Over None new P = ⊥
Over (Some old) None P = ⊥
Over (Some old) (Some new) P = P old new
