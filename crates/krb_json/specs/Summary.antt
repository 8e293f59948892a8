-- A cache in an overview as a JSON value, and as its line.
use Rattle.std.specs.Prelude.{ℕ, List, [], ◌∷◌, ◌++◌, codes, pos, option_map}
use Rattle.json.specs.Json.{Json, boolean, string}
use Rattle.krb_wire.specs.Names.{name_text}
use Rattle.krb_wire.specs.Spelling.{Parts}
use Rattle.krb_json.specs.declared.summary.CacheSummary.{CacheSummary}
use Rattle.krb_json.specs.Cache.{integer_or_null}
use Rattle.krb_json.specs.Escaped.{json_text}
use Rattle.krb_json.specs.Members.{object_of, number_of, text_member}

-- a cache in the JSON of `klist -l`: its file, its default principal, how many tickets it has, when they end, and whether they have
unfoldable pub summary_value : List ℕ → Parts → CacheSummary → Json
summary_value file principal summary =
    object_of (
    (codes "file", string file)
    ∷ (codes "kind", string (codes "ccache"))
    ∷ text_member (codes "default_principal") (name_text principal)
    ∷ (codes "tickets", number_of summary.tickets)
    ∷ (codes "endtime", integer_or_null (option_map pos summary.endtime))
    ∷ (codes "expired", boolean summary.is_expired)
    ∷ []
    )

-- the line that `klist -l --json` prints of a cache
abbrev pub summary_text : List ℕ → Parts → CacheSummary → List ℕ
summary_text file principal summary = json_text (summary_value file principal summary) ++ codes "\n"
