-- The words of an addition, read from left to right.
use Rattle.krb_keytab_text.proofs.Cited.{arith, ◌≡◌, ℕ, List, true, Option, Result, Ok, Err, subst, is_some, ok_or, EntryParts, LineFault, Reads, ◌>>=◌, Addition, digits_of, entry_of, Parts, BadKey, LineRefusal, key_in, number_word, etype_word, name_word}

-- the entry made of what the words are read as
abbrev entry_by : Result ℕ LineFault → Result ℕ LineFault → Result ℕ LineFault → List ℕ → Result Parts LineFault → Result EntryParts LineFault
entry_by kvno etype time digits name = do
  version ← kvno
  enctype ← etype
  timestamp ← time
  key ← ok_or (key_in enctype digits) BadKey
  principal ← name
  Ok (record { principal = principal; timestamp = timestamp; version = version; enctype = enctype; key = key })

-- if the key is valid and the name is refused, the entry is refused for the same reason
after_key : (v t s : ℕ) (key : Option (List ℕ)) (name : Result Parts LineFault) (e : LineRefusal) → true ≡ is_some key → Reads {T = Parts} (λ p. p) name (Err e)
    → Reads {T = EntryParts} (λ x. x) (ok_or key BadKey >>= λ k. name >>= λ p. Ok (record { principal = p; timestamp = s; version = v; enctype = t; key = k })) (Err e)
after_key v t s key name e some h = search arith

-- if all words but the name are valid and the name is refused, the entry is refused for the same reason
pub name_refused : (a : Addition) (digits : List ℕ) (v t s : ℕ) (e : LineRefusal) → Ok v ≡ number_word a.kvno → Ok t ≡ etype_word a.etype → Ok s ≡ number_word a.time → digits ≡ digits_of a.key → true ≡ is_some (key_in t digits)
    → Reads {T = Parts} (λ p. p) (name_word a.name) (Err e) → Reads {T = EntryParts} (λ x. x) (entry_of a) (Err e)
name_refused a digits v t s e is_v is_t is_s is_digits some h =
    let Q : Result ℕ LineFault → Type 0 = λ r. Reads {T = EntryParts} (λ x. x) (entry_by r (etype_word a.etype) (number_word a.time) (digits_of a.key) (name_word a.name)) (Err e) in
    let R : Result ℕ LineFault → Type 0 = λ r. Reads {T = EntryParts} (λ x. x) (entry_by (Ok v) r (number_word a.time) (digits_of a.key) (name_word a.name)) (Err e) in
    let S : Result ℕ LineFault → Type 0 = λ r. Reads {T = EntryParts} (λ x. x) (entry_by (Ok v) (Ok t) r (digits_of a.key) (name_word a.name)) (Err e) in
    let D : List ℕ → Type 0 = λ d. Reads {T = EntryParts} (λ x. x) (entry_by (Ok v) (Ok t) (Ok s) d (name_word a.name)) (Err e) in
    subst Q is_v (subst R is_t (subst S is_s (subst D is_digits (after_key v t s (key_in t digits) (name_word a.name) e some h))))
