-- Texts, one after another: those of names, and keys.
use Rattle.std.specs.Prelude.{◌≡◌, ℕ, List, [], ◌∷◌, length, map, Option, None, Some}
use Rattle.std.specs.List.{AllByRecursion, flat_map}
use Rattle.krb_wire.specs.Spelling.{Parts}
use Rattle.krb_wire.specs.Names.{name_text}
use Rattle.krb_keytab.specs.Find.{PlacedEntry}
use Rattle.krb_copy.specs.declared.texts.NamesLeft.{NamesLeft}
use Rattle.krb_copy.specs.declared.texts.NamesLeft.TheVariants.{Own, New}

-- these texts, and their lengths
pub record AreTexts (texts : List (List ℕ)) (bytes lens : List ℕ) : Type 0 where
  pub bytes_are : bytes ≡ flat_map (λ t. t) texts
  pub lens_are : lens ≡ map (λ t. length t) texts

-- the name and the key of each entry
abbrev pub entry_texts : List PlacedEntry → List (List ℕ)
entry_texts xs = flat_map (λ x. name_text x.1.principal ∷ x.1.key ∷ []) xs

-- the name of each entry
abbrev pub name_texts : List PlacedEntry → List (List ℕ)
name_texts xs = map (λ x. name_text x.1.principal) xs

-- the name of each entry, or once their new one
abbrev pub asked_texts : Option Parts → List PlacedEntry → List (List ℕ)
asked_texts None xs = name_texts xs
asked_texts (Some name) xs = name_text name ∷ []

-- the names that are left are those of these entries
abbrev pub AreNames : List PlacedEntry → NamesLeft → Type 0
AreNames xs (Own texts) = AreTexts (name_texts xs) texts.bytes.now texts.lens.now
AreNames xs (New name) = AllByRecursion (λ x. name.now ≡ name_text x.1.principal) xs
