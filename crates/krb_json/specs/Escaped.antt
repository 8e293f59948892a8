-- The text of a value, in which each control character is escaped.
use Rattle.std.specs.Prelude.{ℕ, List, [], ◌∷◌, ◌++◌, codes, Bool, false}
use Rattle.json.specs.Json.{Json}
use Rattle.json.specs.Token.{Token, key, string}
use Rattle.json.specs.Print.{ends, escape, separator, token_text}
use Rattle.json.specs.Tree.{json_tokens}
use Rattle.krb_wire.specs.Controls.{escaped}
use Rattle.krb_wire.specs.declared.controls.Style.TheVariants.{Json as in_json}

-- a string between quotes, after JSON's own escapes
abbrev pub within : List ℕ → List ℕ
within s = escaped in_json false (escape s)

-- a token: in strings, 7f and U+0080 to U+009F are escaped too
abbrev pub shown : Token → List ℕ
shown (key s) = 34 ∷ (within s ++ codes "\":")
shown (string s) = 34 ∷ (within s ++ codes "\"")
shown t = token_text t

-- the text of tokens, after a value or not
unfoldable pub text_from : Bool → List Token → List ℕ
text_from after_value [] = []
text_from after_value (t ∷ ts) = separator after_value t ++ (shown t ++ text_from (ends t) ts)

-- the text of tokens
abbrev pub text_of : List Token → List ℕ
text_of = text_from false

-- the text of a value
abbrev pub json_text : Json → List ℕ
json_text v = text_of (json_tokens v)
