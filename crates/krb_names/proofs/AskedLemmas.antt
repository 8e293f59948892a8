-- The patterns that are asked for.
use Rattle.krb_names.proofs.Cited.{◌≡◌, ◌∙◌, sym, ap, refl, arith, Bool, true, false, List, [], ◌∷◌, ◌||◌, ◌&&◌, list_any, is_among}
use Rattle.std.specs.Prelude.{not, filter, if◌then◌else◌}
use Rattle.krb_wire.specs.Names.{name_text}
use Rattle.krb_wire.specs.Spelling.{Parts}
use Rattle.krb_names.specs.Asked.{AskedParts, asks_for, with_plain_realms}
use Rattle.krb_names.specs.Patterns.{fits, has_star}

-- a name fits one of the patterns, or one without a star in the realm
abbrev pub fits_one : Bool → Parts → List Parts → Bool
fits_one plain p patterns = list_any (λ pattern. not (plain && has_star pattern.realm) && fits pattern p) patterns

any_filtered : (p : Parts) (patterns : List Parts) → fits_one true p patterns ≡ list_any (λ pattern. fits pattern p) (filter (λ pattern. not (has_star pattern.realm)) patterns)
any_filtered p [] = refl
any_filtered p (pattern ∷ patterns) = grind (arith, any_filtered p patterns)

-- what no text asks for is asked for by a pattern
pub asked_by_pattern : (plain : Bool) (asked : AskedParts) (p : Parts) → is_among asked.texts (name_text p) ≡ false → fits_one plain p asked.patterns ≡ asks_for (if plain then with_plain_realms asked else asked) p
asked_by_pattern true asked p no_text = any_filtered p asked.patterns ∙ ap (λ (b : Bool). b || list_any (λ pattern. fits pattern p) (with_plain_realms asked).patterns) (sym no_text)
asked_by_pattern false asked p no_text = ap (λ (b : Bool). b || list_any (λ pattern. fits pattern p) asked.patterns) (sym no_text)

pub asked_by_text : (plain : Bool) (asked : AskedParts) (p : Parts) → is_among asked.texts (name_text p) ≡ true → true ≡ asks_for (if plain then with_plain_realms asked else asked) p
asked_by_text true asked p has_text = ap (λ (b : Bool). b || list_any (λ pattern. fits pattern p) (with_plain_realms asked).patterns) (sym has_text)
asked_by_text false asked p has_text = ap (λ (b : Bool). b || list_any (λ pattern. fits pattern p) asked.patterns) (sym has_text)
