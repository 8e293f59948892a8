-- What is known while the tickets of a cache are looked at.
use Rattle.std.specs.Prelude.{◌≡◌, ⊤, ℕ, List, ◌++◌, map, is_some, Bool, true, false, not, if◌then◌else◌, Option, None, Some, IfSome}
use Rattle.std.specs.Option.{option_or}
use Rattle.krb_keytab.specs.Find.{PlacedEntry, placed_entries}
use Rattle.krb_keytab.specs.Store.{KeytabState}
use Rattle.krb_ccache.specs.Store.{PlacedCredential}
use Rattle.krb_names.specs.Asked.{AskedParts, asks_for_any}
use Rattle.krb_match.specs.declared.looking.Judge.{Judge}
use Rattle.krb_match.specs.declared.keys.Keys.{Keys}
use Rattle.krb_match.specs.declared.near.NearNames.{NearNames}
use Rattle.krb_match.specs.Names.{bare_key, folded_key}
use Rattle.krb_match.specs.Near.{AreNear}
use Rattle.krb_match.specs.Table.{AreKeys}
use Rattle.krb_match.specs.Tickets.{MatchedParts, first_near, is_looked_at, matched}

-- the names of entries can be found, if near ones are wanted
abbrev pub IsNear : {A : Type 0} → List PlacedEntry → Option (NearNames A) → Type 0
IsNear xs None = ⊤
IsNear xs (Some near) = AreNear (map (λ x. folded_key x.1.principal) xs) (map (λ x. bare_key x.1.principal) xs) near

-- tickets are judged by entries, names are asked for, and near ones are found if they are wanted
pub record JudgesBy {A : Type 0} (asked : AskedParts) (wanted : Bool) (xs : List PlacedEntry) (names : AskedParts) (asks : Bool) (entries : KeytabState) (keys : Option (Keys A)) (near : Option (NearNames A)) : Type 0 where
  pub names_are : names ≡ asked
  pub asks_is : asks ≡ not (asks_for_any asked)
  pub entries_are : placed_entries entries ≡ xs
  pub keys_are : IfSome keys (AreKeys xs)
  pub near_is : IsNear xs near
  pub wanted_is : is_some near ≡ wanted

-- a judge has those parts
abbrev pub IsJudge : {A B : Type 0} → AskedParts → Bool → List PlacedEntry → Judge A B → Type 0
IsJudge asked wanted xs judge = JudgesBy asked wanted xs judge.names judge.asks judge.classes.now judge.keys judge.near.now

-- a judge stays one
abbrev pub StaysJudge : {A B : Type 0} → Judge A B → Judge A B → Type 0
StaysJudge old new = (asked : AskedParts) (wanted : Bool) (xs : List PlacedEntry) → IsJudge asked wanted xs old → IsJudge asked wanted xs new

-- a ticket that is looked at, or nothing
abbrev pub IsSaid : AskedParts → List PlacedEntry → PlacedCredential → Option MatchedParts → Type 0
IsSaid asked xs c None = is_looked_at asked xs c.1 ≡ false
IsSaid asked xs c (Some t) = (is_looked_at asked xs c.1 ≡ true) × (t ≡ matched xs c)

-- the tickets so far, with the rest of those looked at, are all of those
pub record AreMatched (wanted : Bool) (xs : List PlacedEntry) (rest all : List PlacedCredential) (tickets : List MatchedParts) (near : Option ℕ) : Type 0 where
  pub tickets_are : tickets ++ map (matched xs) rest ≡ map (matched xs) all
  pub near_is : option_or near (if wanted then first_near xs rest else None) ≡ (if wanted then first_near xs all else None)
