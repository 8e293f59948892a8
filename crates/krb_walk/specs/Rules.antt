-- What a store returns for each change, if no allocation fails.
use Rattle.std.specs.Prelude.{◌≡◌, ℕ, Bool, Result, Ok, Err, IsOk}
use Rattle.krb_walk.specs.declared.refusal.Code.{Code}
use Rattle.krb_walk.specs.declared.refusal.Refusal.{Refusal}
use Rattle.krb_walk.specs.declared.refusal.Refusal.TheVariants.{Code as ByCode, NoMemory}
use Rattle.krb_walk.specs.Store.{Store}

-- how a state is seen as a store, and what a change gives: the new state (of `put`, with the place), or a refusal code
pub record Rules (S I : Type 0) : Type 0 where
  pub seen : S → Store
  pub put : S → I → Result (ℕ × S) Code
  pub cut : S → ℕ → Result S Code
  pub rewrite : S → Result S Code
  -- whether an addition takes no memory
  pub takes_none : S → I → Bool

-- an addition returns what the rules give; if an allocation failed, the store is unchanged
abbrev pub PutGives : {S : Type 0} → Result (ℕ × S) Code → S → Result ℕ Refusal → S → Type 0
PutGives given old (Ok place) new = given ≡ Ok (place, new)
PutGives given old (Err (ByCode code)) new = (given ≡ Err code) × (new ≡ old)
PutGives given old (Err NoMemory) new = new ≡ old

-- a removal returns what the rules give
abbrev pub CutGives : {S : Type 0} → Result S Code → S → Result (Unit {0}) Code → S → Type 0
CutGives given old (Ok done) new = given ≡ Ok new
CutGives given old (Err code) new = (given ≡ Err code) × (new ≡ old)

-- a rewrite returns what the rules give; it runs out of memory only if not refused, and then leaves the store unchanged
abbrev pub RewriteGives : {S : Type 0} → Result S Code → S → Result (Unit {0}) Refusal → S → Type 0
RewriteGives given old (Ok done) new = given ≡ Ok new
RewriteGives given old (Err (ByCode code)) new = (given ≡ Err code) × (new ≡ old)
RewriteGives given old (Err NoMemory) new = IsOk given × (new ≡ old)
