-- Scripts of a cache: lines for events, and for configuration values to set.
use Rattle.std.specs.Prelude.{ℕ, ◌==◌, ◌||◌, List, [], ◌∷◌, length, codes, if◌then◌else◌, bytes_eq, Option, None, Some, ok_or, Result, Ok, Err}
use Rattle.std.specs.List.{join_with_byte}
use Rattle.krb_ccache.specs.Credential.{CredParts}
use Rattle.krb_ccache.specs.SetConfig.{SettingParts}
use Rattle.krb_text.specs.declared.line_fault.LineFault.{LineFault}
use Rattle.krb_text.specs.declared.line_fault.LineFault.TheVariants.{UnknownWord, WordCount}
use Rattle.krb_text.specs.Word.{pieces, name_word}
use Rattle.krb_keytab_text.specs.Script.{◌>>=◌, made, common_event}
use Rattle.krb_cache_text.specs.declared.request.Request.{Request}
use Rattle.krb_cache_text.specs.declared.request.Request.TheVariants as request

-- what a line of ccedit asks for: an event, or a configuration value to set
abbrev pub CacheLineParts : Type 0
CacheLineParts = Request CredParts SettingParts

-- the principal in a word; `-` means none
abbrev pub principal_of : List ℕ → Option (List ℕ)
principal_of word = if bytes_eq word (codes "-") then None else Some word

-- the configuration value to set in the words after `config`: key, principal or `-`, and the value, which is the rest of the line
abbrev pub setting_of : List (List ℕ) → Option SettingParts
setting_of [] = None
setting_of (key ∷ []) = None
setting_of (key ∷ principal ∷ []) = None
setting_of (key ∷ principal ∷ value ∷ more) =
    if (length key == 0) || (length principal == 0) then None
    else Some (record { key = key; principal = principal_of principal; value = join_with_byte 32 (value ∷ more) })

-- the text of a principal is a name with its realm, or is missing
abbrev pub checked : Option (List ℕ) → Result (Unit {0}) LineFault
checked None = Ok tt
checked (Some text) = made (λ name. tt) (name_word text)

-- a configuration value to set, if its principal is a name with its realm
abbrev pub checked_setting : SettingParts → Result SettingParts LineFault
checked_setting setting = made (λ done. setting) (checked setting.principal)

-- the configuration value to set in the words after `config`, or their fault
abbrev pub setting_in : List (List ℕ) → Result SettingParts LineFault
setting_in words = ok_or (setting_of words) WordCount >>= checked_setting

-- what the words of a line of ccedit ask for, or the line's first fault
abbrev pub cache_line_of : List (List ℕ) → Result CacheLineParts LineFault
cache_line_of [] = Err UnknownWord
cache_line_of (word ∷ words) = if bytes_eq word (codes "config") then made request.Setting (setting_in words) else made request.Event (common_event word words)

-- what a line of ccedit asks for, or the line's first fault; one space separates words
abbrev pub cache_line_in : List ℕ → Result CacheLineParts LineFault
cache_line_in line = cache_line_of (pieces 32 line)
