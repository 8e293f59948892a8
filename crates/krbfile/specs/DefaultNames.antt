-- The name of a file that a command line leaves out.
use Rattle.std.specs.Prelude.{◌≡◌, ℕ, ◌==◌, List, [], ◌∷◌, ◌++◌, codes, decimal, drop, length, take, nat_eq, if◌then◌else◌, Option, None, Some, unwrap_or, Result, Ok, Err, IsErrAnd, IsOkAnd, string_bytes, false, ◌≢◌}
use Rattle.std.specs.List.{position_from, starts_with}
use Rattle.std.specs.IoError.{error_kind}
use Rattle.std.specs.Result.{result_map_both}
use Rattle.std.specs.declared.env.VarError.{VarError}
use Rattle.std.specs.declared.env.VarError.TheVariants as var
use Rattle.std.specs.declared.io.Error.{Error}
use Rattle.std.specs.declared.io.ErrorKind.TheVariants.{OutOfMemory}
use Rattle.krb_commands.specs.Actions.{DefaultName, kind_by}
use Rattle.krb_commands.specs.declared.needs.LeftOut.{LeftOut}
use Rattle.krb_driver.specs.declared.command_line.mistake.WordFault.{WordFault}
use Rattle.krb_driver.specs.declared.command_line.mistake.WordFault.TheVariants.{NoMemory}
use Rattle.krb_driver.specs.declared.file_name.NameSource.{NameSource}
use Rattle.krb_driver.specs.declared.file_name.NameSource.TheVariants.{CacheVariable, KeytabVariable}
use Rattle.krb_driver.specs.declared.verdict.FileKind.{FileKind}
use Rattle.krb_driver.specs.declared.verdict.FileKind.TheVariants.{Keytab}
use Rattle.krb_driver.specs.FileNames.{IsNamed}
use Rattle.krb_driver.specs.Mistakes.{IsOf, IsRefusal, missing, variable_not_text}
use Rattle.krb_text.specs.Numbers.{number_in}
use Rattle.krb_text.specs.Word.{pieces}
use Rattle.krbfile.specs.declared.default_name.FoundName.{FoundName}

-- the number before a first tab
abbrev pub first_number : List ℕ → Option ℕ
first_number text = number_in 32 (take (unwrap_or (position_from (λ b. b == 9) 0 text) (length text)) text)

-- the first number on the line of users, if one of the lines is that
abbrev pub user_of : List (List ℕ) → Option ℕ
user_of [] = None
user_of (line ∷ lines) = if starts_with nat_eq line (codes "Uid:\t") then first_number (drop 5 line) else user_of lines

-- the number of the real user, in what the system reports of a process
abbrev pub user_in : List ℕ → Option ℕ
user_in status = user_of (pieces 10 status)

-- the variable that names a file of that kind, and what a name in it comes from
abbrev pub variable_of : FileKind → List ℕ × NameSource
variable_of Keytab = (codes "KRB5_KTNAME", KeytabVariable)
variable_of kind = (codes "KRB5CCNAME", CacheVariable)

-- the parts of a found name
abbrev pub parts_of : FoundName → FileKind × NameSource × Result (List ℕ) WordFault
parts_of found = (found.kind, found.source, result_map_both string_bytes (λ fault. fault) found.text)

-- the name that the environment's answer gives for a command, or why it gives none; a variable that is not set or is empty leaves it to the default
abbrev pub GivesName : LeftOut → List ℕ → Result (List ℕ) VarError → Option FoundName → Type 0
GivesName file command (Ok []) found = found ≡ None
GivesName file command (Ok (b ∷ bytes)) (Some found) = parts_of found ≡ (kind_by file.command file.default, (variable_of file.default).1, Ok (b ∷ bytes))
GivesName file command (Err var.NotPresent) found = found ≡ None
GivesName file command (Err var.NotUnicode) (Some found) = IsErrAnd found.text (IsRefusal command (Some (variable_not_text (variable_of file.default).0)))
GivesName file command (Err var.OutOfMemory) (Some found) = found.text ≡ Err NoMemory
GivesName file command answer found = ⊥

-- the default name of the cache of a user, unless memory runs out; none if the user is not known
abbrev pub IsCacheOf : Option ℕ → Result (List ℕ) WordFault → Type 0
IsCacheOf (Some user) (Ok text) = text ≡ codes "/tmp/krb5cc_" ++ decimal user
IsCacheOf (Some user) (Err fault) = fault ≡ NoMemory
IsCacheOf None text = IsErrAnd text (IsOf (Some (missing (codes "FILE"))))

-- the default name of a cache, by what was read of the process
abbrev pub IsCacheName : Result (List ℕ) Error → Result (List ℕ) WordFault → Type 0
IsCacheName (Ok status) text = IsCacheOf (user_in status) text
IsCacheName (Err error) text = (error_kind error ≡ OutOfMemory → text ≡ Err NoMemory) × (error_kind error ≢ OutOfMemory → IsCacheOf None text)

-- the file that a found name names, or else the reason for which there is none
abbrev pub IsFile : FoundName → DefaultName → Type 0
IsFile found (Ok file) = IsOkAnd found.text (λ text. IsNamed found.kind (string_bytes text) found.source file × (file.in_place ≡ false))
IsFile found (Err fault) = found.text ≡ Err fault
