-- The text of a value in pieces: for private contracts.
use Rattle.std.specs.Prelude.{ℕ, ◌≡◌, ◌≤◌, List, [], ◌∷◌, ◌++◌, flat_map, fold, codes, Bool, true, false, if◌then◌else◌, Result, OnOk}
use Rattle.std.specs.List.{AllByRecursion}
use Rattle.json.specs.Json.{Json}
use Rattle.json.specs.Token.{Token, begin_object, end_object, begin_array, end_array, key}
use Rattle.json.specs.Print.{ArePrintableOrBad}
use Rattle.json.specs.Tree.{json_tokens, depth}
use Rattle.krb_ccache.specs.Store.{CacheState, PlacedCredential, placed_credentials}
use Rattle.krb_files.specs.declared.output.OutFault.{OutFault}
use Rattle.krb_files.specs.Bytes.{Watch}
use Rattle.krb_text.specs.Gathered.{Gathers}
use Rattle.krb_json.specs.declared.elements.Elements.{Elements}
use Rattle.krb_json.specs.Escaped.{json_text, text_of}
use Rattle.krb_json.specs.Members.{Member}
use Rattle.krb_json.specs.Cache.{ticket_values, config_values}

-- the tokens of a member
abbrev pub member_tokens : Member → List Token
member_tokens m = key m.0 ∷ json_tokens m.1

-- the tokens of members, one after the other
abbrev pub tokens_of : List Member → List Token
tokens_of ms = flat_map member_tokens ms

-- a comma, if after an element
abbrev pub comma_after : Bool → List ℕ
comma_after is_after = if is_after then codes "," else []

-- an element of an array, after others or as the first
abbrev pub element_text : Bool → Json → List ℕ
element_text is_after v = comma_after is_after ++ json_text v

-- elements of an array, after others or from the first on
abbrev pub elements_text : Bool → List Json → List ℕ
elements_text is_after [] = []
elements_text is_after (v ∷ vs) = element_text is_after v ++ elements_text true vs

-- the tokens of an object up to an array in it, after these members
abbrev pub head_tokens : List Member → List ℕ → List Token
head_tokens ms name = begin_object ∷ (tokens_of ms ++ (key name ∷ begin_array ∷ []))

-- the tokens between two arrays of an object
abbrev pub between_tokens : List ℕ → List Token
between_tokens name = end_array ∷ key name ∷ begin_array ∷ []

-- the tokens of an object after an array in it, up to its end, with these members
abbrev pub tail_tokens : List Member → List Token
tail_tokens ms = end_array ∷ (tokens_of ms ++ (end_object ∷ []))

-- the text of a cache after its last ticket, up to its last configuration entry
abbrev pub after_tickets : List PlacedCredential → List ℕ
after_tickets xs = text_of (between_tokens (codes "config")) ++ elements_text false (config_values xs)

-- the text of a cache from its first ticket on, up to its last configuration entry
abbrev pub arrays_text : CacheState → List ℕ
arrays_text k = elements_text false (ticket_values (placed_credentials k)) ++ after_tickets (placed_credentials k)

-- a value that a reader reads back: its tokens were printed, and it nests at most two levels deep
pub record IsPlain (v : Json) : Type 0 where
  pub printed : ArePrintableOrBad (json_tokens v)
  pub flat : depth v ≤ 2

-- such values
abbrev pub ArePlain : List Json → Type 0
ArePlain vs = AllByRecursion IsPlain vs

-- the text of tokens was gathered after what was gathered before, and an array begins
pub record Begins {A : Type 0} (before : List ℕ) (after : Elements A) (ts : List Token) : Type 0 where
  pub text : after.gathered.items ≡ before ++ text_of ts
  pub printed : ArePrintableOrBad ts
  pub empty : after.piece ≡ []
  pub first : after.is_after ≡ false

-- elements of an array, which a reader reads back, were gathered after what was gathered before, and after others or as the first
pub record AddsAfter {A : Type 0} (old new : Watch) (before : List ℕ) (follows : Bool) (after : Elements A) (result : Result (Unit {0}) OutFault) (vs : List Json) : Type 0 where
  pub gathers : Gathers old new before after.gathered.items result (elements_text follows vs)
  pub is_after : OnOk result (after.is_after ≡ fold (λ _ _. true) follows vs)
  pub plain : OnOk result (ArePlain vs)
  pub empty : OnOk result (after.piece ≡ [])

-- elements of an array were gathered
abbrev pub Adds : {A : Type 0} → Watch → Watch → Elements A → Elements A → Result (Unit {0}) OutFault → List Json → Type 0
Adds old new before after result vs = AddsAfter old new before.gathered.items before.is_after after result vs
