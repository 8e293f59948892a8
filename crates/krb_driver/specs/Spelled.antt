-- What the words of a command line spell.
use Rattle.std.specs.Prelude.{◌≡◌, ℕ, List, [], ◌∷◌, Option, None, Some, option_map, ok_or, Result, Ok, Err, codes, filter, map, nat_lt, ◌^◌, ◌&&◌, if◌then◌else◌}
use Rattle.std.specs.List.{flat_map}
use Rattle.std.specs.Option.{option_and_then}
use Rattle.std.specs.Result.{result_err}
use Rattle.std.specs.Str.{str_eq_ignore_ascii_case}
use Rattle.krb_names.specs.Asked.{AskedParts}
use Rattle.krb_names.specs.Patterns.{pattern_of}
use Rattle.krb_wire.specs.declared.memory.NoMemory.{NoMemory}
use Rattle.krb_wire.specs.NameOf.{name_of}
use Rattle.krb_wire.specs.Names.{name_text}
use Rattle.krb_wire.specs.Spelling.{Parts}
use Rattle.krb_text.specs.Etype.{Etype, etype_in, etype_table}
use Rattle.krb_text.specs.Numbers.{number_in, seconds_in}
use Rattle.krb_driver.specs.declared.command_line.mistake.Mistake.{Mistake}
use Rattle.krb_driver.specs.declared.command_line.mistake.WordFault.{WordFault}
use Rattle.krb_driver.specs.Loading.{result_map, result_map_err}
use Rattle.krb_driver.specs.Mistakes.{Matched, MistakeParts, Reads, faulty_name, mistake_parts, no_count, no_etype, no_time, no_version}

infixl 10 ◌>>=◌
-- the value that words spell goes on to what follows; a mistake in them ends
abbrev pub ◌>>=◌ : {X Y : Type 0} → Result X MistakeParts → (X → Result Y MistakeParts) → Result Y MistakeParts
Ok value >>= then_ = then_ value
Err mistake >>= then_ = Err mistake

infixr 10 ◌>>◌
-- a mistake ends, if there is one; otherwise what follows counts
abbrev pub ◌>>◌ : {X : Type 0} → Option MistakeParts → Result X MistakeParts → Result X MistakeParts
None >> then_ = then_
Some mistake >> then_ = Err mistake

-- what each of several words spells, or the mistake of the first that has one
abbrev pub each : {X : Type 0} → (List ℕ → Result X MistakeParts) → List (List ℕ) → Result (List X) MistakeParts
each spelled [] = Ok []
each spelled (word ∷ words) = spelled word >>= (λ value. each spelled words >>= (λ values. Ok (value ∷ values)))

-- the principal name that a word spells with its realm
abbrev pub spelled_name : List ℕ → Result Parts MistakeParts
spelled_name word = result_map_err (faulty_name word) (name_of word None)

-- the text that the principal name which a word spells prints as
abbrev pub printed_name : List ℕ → Result (List ℕ) MistakeParts
printed_name word = result_map name_text (spelled_name word)

-- the pattern of principal names that a word spells with a realm
abbrev pub spelled_pattern : List ℕ → Result Parts MistakeParts
spelled_pattern word = result_map_err (faulty_name word) (pattern_of word)

-- the names that the values of an option and of `--match` ask for
abbrev pub spelled_asked : Matched → List ℕ → Result AskedParts MistakeParts
spelled_asked words option = do
  texts ← each printed_name (words.values option)
  patterns ← each spelled_pattern (words.values (codes "match"))
  Ok (record { texts = texts; patterns = patterns })

-- the encryption type that a word spells, by name or number
abbrev pub spelled_etype : List ℕ → Result ℕ MistakeParts
spelled_etype word = ok_or (etype_in word) (no_etype word)

-- the weak encryption types
abbrev pub weak_etypes : List ℕ
weak_etypes = map Etype.number (filter Etype.is_weak etype_table)

-- the encryption types that a word selects: the weak ones by `weak`, in either case, or the one that it spells
abbrev pub selected_etypes : List ℕ → Result (List ℕ) MistakeParts
selected_etypes word = if str_eq_ignore_ascii_case (codes "weak") word then Ok weak_etypes else result_map (λ etype. etype ∷ []) (spelled_etype word)

-- the encryption types that words select
abbrev pub spelled_etypes : List (List ℕ) → Result (List ℕ) MistakeParts
spelled_etypes words = result_map (flat_map (λ etypes. etypes)) (each selected_etypes words)

-- the version that a word spells
abbrev pub spelled_version : List ℕ → Result ℕ MistakeParts
spelled_version word = ok_or (number_in 32 word) (no_version word)

-- a number, if it is from 1 to 255
abbrev pub as_count : ℕ → Option ℕ
as_count n = if nat_lt 0 n && nat_lt n (2 ^ 8) then Some n else None

-- the count, from 1 to 255, that a text is
abbrev pub count_in : List ℕ → Option ℕ
count_in text = option_and_then as_count (number_in 32 text)

-- the count that a word spells, if there is a word
abbrev pub spelled_count : Option (List ℕ) → Result (Option ℕ) MistakeParts
spelled_count None = Ok None
spelled_count (Some word) = ok_or (option_map (λ count. Some count) (count_in word)) (no_count word)

-- the seconds that a word spells, if there is a word
abbrev pub spelled_seconds : Option (List ℕ) → Result (Option ℕ) MistakeParts
spelled_seconds None = Ok None
spelled_seconds (Some word) = ok_or (option_map (λ seconds. Some seconds) (seconds_in word)) (no_time word)

-- ---- what a function returns for words

-- a function that takes no memory returns what words spell, or their mistake
abbrev pub Spells : {X : Type 0} → Result X MistakeParts → Result X Mistake → Type 0
Spells spelled (Ok x) = spelled ≡ Ok x
Spells spelled (Err mistake) = spelled ≡ Err (mistake_parts mistake)

-- a function that takes memory returns what words spell, which `view` has of it, or their mistake; or they have none, and memory ran out
abbrev pub SpellsInMemory : {X Y : Type 0} → (X → Y) → Result Y MistakeParts → Result (Result X NoMemory) Mistake → Type 0
SpellsInMemory view spelled (Ok (Ok x)) = spelled ≡ Ok (view x)
SpellsInMemory view spelled (Ok (Err e)) = result_err spelled ≡ None
SpellsInMemory view spelled (Err mistake) = result_err spelled ≡ Some (mistake_parts mistake)

-- the options of a line are what its words spell, or the line is refused for their mistake; or they have none, and memory ran out
abbrev pub ReadsAs : {X : Type 0} → Result X MistakeParts → Result X WordFault → Type 0
ReadsAs spelled result = Reads (result_err spelled) (λ options. spelled ≡ Ok options) result
