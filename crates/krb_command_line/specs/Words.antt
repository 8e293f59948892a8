-- The words of a command line, and the options and operands of a command.
use Rattle.std.specs.Prelude.{ℕ, ◌+◌, ◌==◌, List, [], ◌∷◌, ◌++◌, codes, drop, encode_utf8, encode_utf8_all, filter, length, map, nat_eq, nat_lt, not, ◌&&◌, Bool, true, false, if◌then◌else◌, bytes_eq, is_some, Option, None, Some, ok_or, option_and_then, option_map, unwrap_or, Result, Ok, Err, String, string_bytes}
use Rattle.std.specs.List.{before_first, find, list_any, position_or_len, starts_with}
use Rattle.std.specs.Option.{option_flatten, option_map_or}
use Rattle.std.specs.Result.{result_map_both, result_ok}
use Rattle.std.specs.Str.{chars}
use Rattle.std.specs.declared.alloc.Global.{Global}
use Rattle.clap.specs.Words.{args_of, shape_of, subcommands_of}
use Rattle.clap.specs.declared.builder.action.ArgAction.{ArgAction}
use Rattle.clap.specs.declared.builder.action.ArgAction.TheVariants.{Append, Set}
use Rattle.clap.specs.declared.builder.arg.Arg.{Arg}
use Rattle.clap.specs.declared.builder.command.Command.{Command}
use Rattle.krb_driver.specs.Mistakes.{MistakeParts, left_over, missing, needs_value, without_command, twice_given, unknown_command, unknown_in_bundle, unknown_option}
use Rattle.krb_command_line.specs.declared.place.Place.{Place}
use Rattle.krb_command_line.specs.declared.place.Place.TheVariants.{Any, Operand, Value}

abbrev pub is_explain : List ℕ → Bool
is_explain word = bytes_eq word (codes "--explain")

-- a word is an option or a bundle of options: `-` and more
abbrev pub is_option : List ℕ → Bool
is_option word = nat_lt 1 (length word) && starts_with nat_eq word (codes "-")

-- the words after the program's name, and after `--explain` if that comes first
abbrev pub words_behind : List (String Global) → List (String Global)
words_behind [] = []
words_behind (program ∷ []) = []
words_behind (program ∷ word ∷ words) = if is_explain (string_bytes word) then words else word ∷ words

-- the mistake of a word where a command is expected
abbrev pub no_command : List ℕ → MistakeParts
no_command word = if is_explain word then twice_given word else (if is_option word then unknown_option word else unknown_command word)

abbrev pub command_name : Command → List ℕ
command_name command = (shape_of command).name

abbrev pub is_named : List ℕ → Command → Bool
is_named name command = bytes_eq (command_name command) name

abbrev pub command_named : Command → List ℕ → Option Command
command_named krbfile name = find (is_named name) (subcommands_of krbfile)

-- the command that words name first
abbrev pub command_of : Command → List (String Global) → Option Command
command_of krbfile [] = None
command_of krbfile (name ∷ words) = if bytes_eq (string_bytes name) (codes "help") then None else command_named krbfile (string_bytes name)

abbrev pub mistake_of_help : Command → List (String Global) → MistakeParts
mistake_of_help krbfile [] = without_command
mistake_of_help krbfile (word ∷ []) = no_command (string_bytes word)
mistake_of_help krbfile (name ∷ other ∷ words) = if is_some (command_named krbfile (string_bytes name)) then left_over (string_bytes other) else no_command (string_bytes name)

-- ---- the options and operands of a command

abbrev pub is_of_name : List ℕ → Arg → Bool
is_of_name name option = option_map_or (λ long. bytes_eq long.now name) option.long false

abbrev pub is_append : ArgAction → Bool
is_append Append = true
is_append action = false

-- an option takes values, or an operand many words
abbrev pub takes_values : Arg → Bool
takes_values option = is_append (unwrap_or option.action Set)

-- the option of that long name takes a value; none if there is no such option
abbrev pub takes_long_value : List Arg → List ℕ → Option Bool
takes_long_value options name = option_map takes_values (find (is_of_name name) options)

abbrev pub is_equals : ℕ → Bool
is_equals b = b == 61

-- an option with its value needs no other word; a flag with a value is unknown
abbrev pub with_value : Option Bool → Option Bool
with_value (Some true) = Some false
with_value takes = None

-- a long option, without its `--`, needs the next word as its value; none if it is unknown
abbrev pub wants_long : List Arg → List ℕ → Option Bool
wants_long options word = if nat_lt (position_or_len is_equals word) (length word) then with_value (takes_long_value options (before_first is_equals word)) else takes_long_value options word

abbrev pub is_operand : Arg → Bool
is_operand arg = not (is_some arg.long) && not (is_some arg.short)

-- the number of operands with one more word, unless that is left over; the last operand may be many words
abbrev pub with_operand : List Arg → ℕ → List ℕ → Result ℕ MistakeParts
with_operand args count word = if nat_lt count (length (filter is_operand args)) then Ok (count + 1) else (if list_any (λ arg. is_operand arg && takes_values arg) args then Ok count else Err (left_over word))

-- the first operand that is required after that many
abbrev pub missing_operand : List Arg → ℕ → Option (List ℕ)
missing_operand args count = option_map (λ arg. arg.id.now) (find (λ arg. arg.required) (drop count (filter is_operand args)))

abbrev pub is_of_letter : ℕ → Arg → Bool
is_of_letter letter option = option_map_or (λ short. short == letter) option.short false

-- the option of that letter takes a value; none if there is no such option
abbrev pub takes_letter_value : List Arg → ℕ → Option Bool
takes_letter_value options letter = option_map takes_values (find (is_of_letter letter) options)

-- the mistake of an unknown letter in a bundle; `=` comes before a value that a flag does not take
abbrev pub unknown_letter : List ℕ → ℕ → MistakeParts
unknown_letter word letter = if letter == 61 then unknown_option word else unknown_in_bundle (encode_utf8 letter)

-- the value at the end of the letters of a bundle, behind the first letter whose option takes one; or their first mistake
abbrev pub value_in : List Arg → List ℕ → List ℕ → Result (Option (List ℕ)) MistakeParts
value_in options word [] = Ok None
value_in options word (letter ∷ letters) = option_map_or (λ takes. if takes then Ok (Some (encode_utf8_all letters)) else value_in options word letters) (takes_letter_value options letter) (Err (unknown_letter word letter))

abbrev pub bundled_value : List Arg → List ℕ → Result (Option (List ℕ)) MistakeParts
bundled_value options word = if starts_with nat_eq word (codes "-") then value_in options word (chars (drop 1 word)) else Ok None

-- a value is there, but empty: it is the next word
abbrev pub is_empty : Option (List ℕ) → Bool
is_empty (Some []) = true
is_empty value = false

abbrev pub is_long : List ℕ → Bool
is_long word = starts_with nat_eq word (codes "--")

-- an option or a bundle of options needs the next word as its value; or the mistake in it
abbrev pub wants_value : List Arg → List ℕ → Result Bool MistakeParts
wants_value options word = if is_long word then ok_or (wants_long options (drop 2 word)) (unknown_option word) else result_map_both is_empty (λ mistake. mistake) (bundled_value options word)

-- ---- the words behind a command

-- the place after a word, which comes after `last`
abbrev pub read_word : List Arg → Place → List ℕ → List ℕ → Result Place MistakeParts
read_word args (Value count) last word = if is_option word then Err (needs_value last) else Ok (Any count)
read_word args (Operand count) last word = result_map_both Operand (λ mistake. mistake) (with_operand args count word)
read_word args (Any count) last word = if bytes_eq word (codes "--") then Ok (Operand count) else (if is_option word then result_map_both (λ wants. if wants then Value count else Any count) (λ mistake. mistake) (wants_value args word) else result_map_both Any (λ mistake. mistake) (with_operand args count word))

-- what is missing after the last word; if nothing is, that word is left over
abbrev pub missing_after : List Arg → Place → List ℕ → MistakeParts
missing_after args (Value count) last = needs_value last
missing_after args (Any count) last = option_map_or missing (missing_operand args count) (left_over last)
missing_after args (Operand count) last = option_map_or missing (missing_operand args count) (left_over last)

-- a place leads on, and a mistake is the first
abbrev pub first_mistake : (Place → MistakeParts) → Result Place MistakeParts → MistakeParts
first_mistake after (Ok place) = after place
first_mistake after (Err mistake) = mistake

-- the first mistake in words, after the words before them
abbrev pub mistake_after : List Arg → Place → List ℕ → List (String Global) → MistakeParts
mistake_after args place last [] = missing_after args place last
mistake_after args place last (word ∷ words) = first_mistake (λ next. mistake_after args next (string_bytes word) words) (read_word args place last (string_bytes word))

abbrev pub mistake_behind : List Arg → List (String Global) → MistakeParts
mistake_behind args words = mistake_after args (Any 0) [] words

-- ---- the words of a line

-- the first mistake in words that krbfile does not match
abbrev pub mistake_of_words : Command → List (String Global) → MistakeParts
mistake_of_words krbfile [] = without_command
mistake_of_words krbfile (name ∷ words) = if bytes_eq (string_bytes name) (codes "help") then mistake_of_help krbfile words else option_map_or (λ command. mistake_behind (args_of command) words) (command_named krbfile (string_bytes name)) (no_command (string_bytes name))

-- the long names of options in the words before a first `--`
abbrev pub long_names : List (String Global) → List (List ℕ)
long_names [] = []
long_names (word ∷ words) = if bytes_eq (string_bytes word) (codes "--") then [] else (if is_long (string_bytes word) then before_first is_equals (string_bytes word) ∷ long_names words else long_names words)

-- ---- values that begin with `=`

-- a bundle with one more `=` before its value, if that begins with one: no letter before it is an `=`
abbrev pub doubled : List Arg → List ℕ → Option (List ℕ)
doubled options word = option_and_then (λ value. if starts_with nat_eq value (codes "=") then Some (before_first is_equals word ++ (61 ∷ value)) else None) (option_flatten (result_ok (bundled_value options word)))

-- the words of a command, each such bundle before a first `--` with one more `=`
abbrev pub doubled_words : List Arg → List (List ℕ) → List (List ℕ)
doubled_words options [] = []
doubled_words options (word ∷ words) = if bytes_eq word (codes "--") then word ∷ words else unwrap_or (doubled options word) word ∷ doubled_words options words

-- the words of a line, doubled by the options of its command
abbrev pub double_equals : Command → List (String Global) → List (List ℕ)
double_equals krbfile words = option_map_or (λ command. doubled_words (args_of command) (map string_bytes words)) (command_of krbfile (words_behind words)) (map string_bytes words)
