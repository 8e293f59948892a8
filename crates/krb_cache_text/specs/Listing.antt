-- The listing of a credential cache, and the lines of a credential in it.
use Rattle.std.specs.Prelude.{ℕ, List, ◌++◌, codes, ◌==◌, [], Bool, if◌then◌else◌, Option, None, Some}
use Rattle.std.specs.List.{flat_map}
use Rattle.krb_wire.specs.Names.{name_text}
use Rattle.krb_wire.specs.Spelling.{Parts}
use Rattle.krb_walk.specs.Store.{fault_of}
use Rattle.krb_ccache.specs.Store.{CacheState, PlacedCredential, store_of, placed_credentials}
use Rattle.krb_ccache.specs.declared.credential.times.Times.{Times}
use Rattle.krb_ccache.specs.Credential.{CredParts}
use Rattle.krb_ccache.specs.Config.{ConfigParts, config_name}
use Rattle.krb_text.specs.FaultLine.{fault_line}
use Rattle.krb_text.specs.Calendar.{time_text_of}
use Rattle.krb_text.specs.Etype.{etype_text_of}
use Rattle.krb_text.specs.Flags.{flag_letters_of}
use Rattle.krb_cache_text.specs.declared.columns.CcColumns.{CcColumns}
use Rattle.krb_text.specs.Escape.{escaped_text}

-- ---- the lines of a credential

-- when a ticket becomes valid: its authtime if it has no start time
abbrev pub valid_from : Times → ℕ
valid_from t = if t.starttime == 0 then t.authtime else t.starttime

-- a time in the line of a ticket, and a space
abbrev pub instant : ℕ → List ℕ
instant seconds = time_text_of seconds ++ codes " "

-- when a ticket becomes valid and when it expires, in its line
abbrev pub validity : Times → List ℕ
validity t = instant (valid_from t) ++ instant t.endtime

-- the line with the start time, the end time and the server of a ticket
unfoldable pub ticket_line : CredParts → List ℕ
ticket_line c = validity c.times ++ (name_text c.server ++ codes "\n")

-- the line that says until when a ticket can be renewed, unless its renew-till is 0
unfoldable pub renew_line : ℕ → List ℕ
renew_line seconds = if seconds == 0 then [] else codes "    renew until " ++ (time_text_of seconds ++ codes "\n")

-- the line with the flags of a ticket, if they are shown
unfoldable pub flags_line : Bool → ℕ → List ℕ
flags_line is_shown flags = if is_shown then codes "    Flags: " ++ (flag_letters_of flags ++ codes "\n") else []

-- the line with the enctype of a ticket's session key, if enctypes are shown
unfoldable pub etype_line : Bool → ℕ → List ℕ
etype_line is_shown etype = if is_shown then codes "    Etype: " ++ (etype_text_of etype ++ codes "\n") else []

-- the lines of a ticket
abbrev pub ticket_lines : CcColumns → CredParts → List ℕ
ticket_lines columns c = ticket_line c ++ (renew_line c.times.renew_till ++ (flags_line columns.flags c.flags ++ etype_line columns.etypes c.key.enctype))

-- the principal that a configuration entry is about, in parentheses
abbrev pub about : Option (List ℕ) → List ℕ
about None = []
about (Some text) = codes "(" ++ (escaped_text text ++ codes ")")

-- the line of a configuration entry: its name and its value
unfoldable pub config_line : ConfigParts → List ℕ → List ℕ
config_line name value = codes "config: " ++ (escaped_text name.key ++ (about name.principal ++ (codes " = " ++ (escaped_text value ++ codes "\n"))))

-- the lines of a credential: of a ticket, or of a configuration entry if those are shown
abbrev pub lines_by : Option ConfigParts → CcColumns → CredParts → List ℕ
lines_by None columns c = ticket_lines columns c
lines_by (Some name) columns c = if columns.configs then config_line name c.ticket else []

-- the lines of a credential
abbrev pub credential_lines : CcColumns → CredParts → List ℕ
credential_lines columns c = lines_by (config_name c.server) columns c

-- ---- the listing of a cache

-- the heading of a cache's listing: the file's name, the default principal, and column titles
abbrev pub cache_heading : List ℕ → Parts → List ℕ
cache_heading name principal =
    codes "Ticket cache: FILE:" ++ (name ++ (codes "\nDefault principal: " ++ (name_text principal
    ++ codes "\n\nValid starting       Expires              Service principal\n")))

-- the lines of a list of credentials
abbrev pub lines_of_credentials : CcColumns → List PlacedCredential → List ℕ
lines_of_credentials columns xs = flat_map (λ x. credential_lines columns x.1) xs

-- the listing of a cache: the heading with the name of the file, the credentials' lines, and the fault if there is one
abbrev pub cache_text : CcColumns → List ℕ → CacheState → List ℕ
cache_text columns name k =
    cache_heading name k.principal ++ (lines_of_credentials columns (placed_credentials k) ++ fault_line (fault_of (store_of k)))
