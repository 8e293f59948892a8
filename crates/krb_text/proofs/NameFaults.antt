-- `NoMemory` is never the fault of a text.
use Rattle.krb_text.proofs.Cited.{arith, ◌≡◌, ◌⊎◌, inl, inr, List, [], ◌∷◌, ◌++◌, Option, Some, None, Result, Ok, Err, ℕ, refl, IsOk, ok_or, unwrap_or, result_ok, filter_map, Parts, BadName, name_word}
use Rattle.krb_wire.specs.declared.name_fault.NameFault.{NameFault}
use Rattle.krb_wire.specs.declared.name_fault.NameFault.TheVariants.{NoMemory}
use Rattle.krb_wire.specs.declared.atom.Atom.{Atom}
use Rattle.krb_wire.specs.Atoms.{atoms, before_at, after_at}
use Rattle.krb_wire.specs.NameOf.{component_fault, realm_fault, faults_of, first_fault, name_or_fault, name_of, realm_of, components_of}

-- it is not the first fault of a realm
not_in_realm : (realm : List Atom) → first_fault (filter_map realm_fault realm) ≡ Some NoMemory → ⊥
not_in_realm [] h = cc
not_in_realm (atom ∷ rest) h = grind (arith, h, not_in_realm rest)

-- nor of components before a realm
not_before : (text : List Atom) (realm : List Atom) → first_fault (filter_map component_fault text ++ filter_map realm_fault realm) ≡ Some NoMemory → ⊥
not_before [] realm h = not_in_realm realm h
not_before (atom ∷ rest) realm h = grind (arith, h, not_before rest realm)

-- if it were the fault of a name, it would be the first fault of the text
not_of_name : (fault : Option NameFault) (realm : Option (List ℕ)) (components : List (List ℕ)) → name_or_fault fault realm components ≡ Err NoMemory → fault ≡ Some NoMemory
not_of_name (Some fault) realm components h = cc
not_of_name None None components h = cc
not_of_name None (Some realm) components h = cc

-- a text is a name, or has another fault
pub not_for_memory : (text : List ℕ) (default_realm : Option (List ℕ)) → name_of text default_realm ≡ Err NoMemory → ⊥
not_for_memory text default_realm h = not_before (before_at (atoms text)) (unwrap_or (after_at (atoms text)) []) (not_of_name (first_fault (faults_of (atoms text))) (realm_of (atoms text) default_realm) (components_of (atoms text)) h)

-- a text that is a name is a valid word
named_word : (r : Result Parts NameFault) → IsOk r → IsOk (ok_or (result_ok r) BadName)
named_word (Ok name) h = refl
named_word (Err fault) h = cc h

-- if an allocation failed, the word is a name
pub word_for_memory : (text : List ℕ) → (name_of text None ≡ Err NoMemory) ⊎ ((NoMemory ≡ NoMemory) × IsOk (name_of text None)) → IsOk (name_word text)
word_for_memory text (inl memory) = absurd (not_for_memory text None memory)
word_for_memory text (inr named) = named_word (name_of text None) named.1
