-- A pass over the entries of a keytab: those so far, and those still to come.
use Rattle.krb_copy.proofs.Cited.{name_texts, versioned, renamed, EntryParts, Option, None, refl, asked_as, Some, AllByRecursion, ◌≡◌, ℕ, ◌+◌, ◌<◌, List, [], ◌∷◌, ◌++◌, length, take, sym, ap, ◌∙◌, append_assoc, map, name_text, PlacedEntry, AreClasses, ClassKey, as_found, AreTexts, entry_texts, get_or, map_push, take_more, flat_map-append, BTreeMap, Parts, Class, arith}

-- the texts of those so far were appended
pub record AreAppended (all rest : List PlacedEntry) (bytes lens : List ℕ) : Type 0 where
  pub before : List PlacedEntry
  pub parts : before ++ rest ≡ all
  pub texts : AreTexts (entry_texts before) bytes lens

pub one_further : (all before rest next : List PlacedEntry) (x : PlacedEntry) → before ++ rest ≡ all → rest ≡ x ∷ next → (before ++ x ∷ []) ++ next ≡ all
one_further all before rest next x parts steps = append_assoc before (x ∷ []) next ∙ ap (λ (xs : List PlacedEntry). before ++ xs) (sym steps) ∙ parts

pub texts_more : (xs : List PlacedEntry) (x : PlacedEntry) → entry_texts (xs ++ x ∷ []) ≡ entry_texts xs ++ name_text x.1.principal ∷ x.1.key ∷ []
texts_more xs x = flat_map-append (λ (y : PlacedEntry). name_text y.1.principal ∷ y.1.key ∷ []) xs (x ∷ [])

-- an entry keeps its name in another version
pub same_name : (kvno : Option ℕ) (x : EntryParts) → (versioned kvno x).principal ≡ x.principal
same_name kvno x = grind arith

-- entries that are copied under their own names
pub own_names : (kvno : Option ℕ) (xs : List PlacedEntry) → name_texts (asked_as (record { name = None; kvno = kvno }) xs) ≡ name_texts xs
own_names kvno [] = refl
own_names kvno (x ∷ xs) = rw (same_name kvno x.1, own_names kvno xs) refl

-- one more name of those asked for
pub one_asked : (ts : List (List ℕ)) (asked : List PlacedEntry) (i : ℕ) (x : PlacedEntry) → i < length asked → x ≡ get_or asked i x
    → (ts ++ name_texts (take i asked)) ++ name_text x.1.principal ∷ [] ≡ ts ++ name_texts (take (i + 1) asked)
one_asked ts asked i x lt here = append_assoc ts (name_texts (take i asked)) (name_text x.1.principal ∷ [])
    ∙ ap (λ (names : List (List ℕ)). ts ++ names)
    (sym (map_push (λ (y : PlacedEntry). name_text y.1.principal) (take i asked) x) ∙ ap name_texts (ap (λ (y : PlacedEntry). take i asked ++ y ∷ []) here ∙ sym (take_more asked i x lt)))

-- each entry has its new name
pub new_names : (name : Parts) (kvno : Option ℕ) (text : List ℕ) (xs : List PlacedEntry) → text ≡ name_text name
    → AllByRecursion (λ x. text ≡ name_text x.1.principal) (asked_as (record { name = Some name; kvno = kvno }) xs)
new_names name kvno text [] is = tt
new_names name kvno text (x ∷ xs) is = (is ∙ ap name_text (sym (same_name kvno (renamed (Some name) x.1))), new_names name kvno text xs is)

-- the classes are those of the entries so far, and the texts those of the others
pub record AreFound {A : Type 0} (all rest : List PlacedEntry) (more : List (List ℕ)) (classes : BTreeMap ClassKey (Class A)) (bytes lens : List ℕ) : Type 0 where
  pub before : List PlacedEntry
  pub parts : before ++ rest ≡ all
  pub classes_are : AreClasses [] (map as_found before) classes
  pub texts : AreTexts (entry_texts rest ++ more) bytes lens
