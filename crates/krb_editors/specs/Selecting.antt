-- Which entries the words of a command select, and their new name and version.
use Rattle.std.specs.Prelude.{ℕ, Bool, false, List, ◌&&◌, ◌||◌, ◌==◌, codes, length, nat_lt, if◌then◌else◌, Option, None, Some, Result, Ok}
use Rattle.std.specs.Str.{bytes_eq}
use Rattle.krb_wire.specs.Spelling.{Parts}
use Rattle.krb_names.specs.Asked.{asks_for_any}
use Rattle.krb_audit.specs.declared.selection.SelectedKvno.{SelectedKvno}
use Rattle.krb_audit.specs.declared.selection.SelectedKvno.TheVariants.{Any, Exactly}
use Rattle.krb_audit.specs.Selection.{SelectionParts}
use Rattle.krb_driver.specs.Loading.{result_map}
use Rattle.krb_driver.specs.Mistakes.{Matched, MistakeParts}
use Rattle.krb_driver.specs.Spelled.{◌>>=◌, spelled_asked, spelled_etypes, spelled_name, spelled_version}

-- a selection is of any name and any enctype
abbrev pub is_of_any : SelectionParts → Bool
is_of_any s = asks_for_any s.names && (length s.enctypes == 0)

-- an option is given
abbrev pub is_given : Matched → List ℕ → Bool
is_given words name = nat_lt 0 (length (words.values name))

-- a name or a pattern of names is given
abbrev pub names_given : Matched → List ℕ → Bool
names_given words option = is_given words option || is_given words (codes "match")

-- just one name is given, and no pattern
abbrev pub one_name_given : Matched → Bool
one_name_given words = (length (words.values (codes "principal")) == 1) && (length (words.values (codes "match")) == 0)

-- the kvnos that the value of `-k` selects, or any without one
abbrev pub spelled_kvno : List ℕ → SelectedKvno → Option (List ℕ) → Result SelectedKvno MistakeParts
spelled_kvno name named None = Ok Any
spelled_kvno name named (Some word) = if bytes_eq word name then Ok named else result_map Exactly (spelled_version word)

-- which entries are selected: those of these kvnos, and of the enctypes and names that `-e`, `-p` and `--match` spell
abbrev pub selection_of : SelectedKvno → Matched → Result SelectionParts MistakeParts
selection_of kvno words = do
  enctypes ← spelled_etypes (words.values (codes "enctype"))
  names ← spelled_asked words (codes "principal")
  Ok (record { names = names; kvno = kvno; enctypes = enctypes; only_same = false })

-- the new name that the value of `--as` spells, if there is one
abbrev pub spelled_new_name : Option (List ℕ) → Result (Option Parts) MistakeParts
spelled_new_name None = Ok None
spelled_new_name (Some word) = result_map (λ name. Some name) (spelled_name word)

-- the new version that the value of `--as-kvno` spells, if there is one
abbrev pub spelled_new_kvno : Option (List ℕ) → Result (Option ℕ) MistakeParts
spelled_new_kvno None = Ok None
spelled_new_kvno (Some word) = result_map (λ kvno. Some kvno) (spelled_version word)
