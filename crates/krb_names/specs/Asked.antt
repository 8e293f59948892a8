-- Which names are asked for.
use Rattle.std.specs.Prelude.{ℕ, List, [], Bool, not, ◌&&◌, ◌||◌, ◌==◌, length, filter}
use Rattle.std.specs.List.{list_any}
use Rattle.krb_wire.specs.Names.{name_text}
use Rattle.krb_wire.specs.Spelling.{Parts}
use Rattle.krb_names.specs.Patterns.{fits, has_star}
use Rattle.krb_names.specs.Set.{is_among}

-- the names that are asked for: those that print as one of the texts, and those that fit one of the patterns
pub record AskedParts : Type 0 where
  pub texts : List (List ℕ)
  pub patterns : List Parts

-- neither a text nor a pattern
abbrev pub nothing_asked : AskedParts
nothing_asked = record { texts = []; patterns = [] }

-- neither a text nor a pattern is given
abbrev pub asks_for_any : AskedParts → Bool
asks_for_any asked = length asked.texts == 0 && length asked.patterns == 0

-- a name prints as one of the texts, or fits one of the patterns
abbrev pub asks_for : AskedParts → Parts → Bool
asks_for asked p = is_among asked.texts (name_text p) || list_any (λ pattern. fits pattern p) asked.patterns

-- a name is asked for, or any is
abbrev pub passes : AskedParts → Parts → Bool
passes asked p = asks_for_any asked || asks_for asked p

-- without the patterns that have a star in the realm
abbrev pub with_plain_realms : AskedParts → AskedParts
with_plain_realms asked = record asked { patterns = filter (λ pattern. not (has_star pattern.realm)) asked.patterns }
