-- The lines of the replies of a session over a cache.
use Rattle.std.specs.Prelude.{ℕ, List, ◌++◌, decimal, codes, Option, None, Some}
use Rattle.krb_wire.specs.Names.{name_text}
use Rattle.krb_walk.specs.ReplyContent.{ReplyContent}
use Rattle.krb_ccache.specs.declared.version.Version.{Version}
use Rattle.krb_ccache.specs.Credential.{CredParts, credential_in}
use Rattle.krb_ccache.specs.Config.{ConfigParts, config_name}
use Rattle.krb_keytab_text.specs.Reply.{reply_text_by}
use Rattle.krb_text.specs.Escape.{escaped_text}
use Rattle.krb_cache_text.specs.Listing.{about}

-- the end of the line of a ticket: the enctype number of its key, and its server
abbrev pub ticket_tail : CredParts → List ℕ
ticket_tail c = codes " etype " ++ (decimal c.key.enctype ++ (codes " " ++ (name_text c.server ++ codes "\n")))

-- the end of the line of a configuration entry: its name
abbrev pub config_tail : ConfigParts → List ℕ
config_tail name = codes " config " ++ (escaped_text name.key ++ (about name.principal ++ codes "\n"))

-- the end of the line of a ticket or of a configuration entry
abbrev pub tail_by : Option ConfigParts → CredParts → List ℕ
tail_by None c = ticket_tail c
tail_by (Some name) c = config_tail name

-- the end of the line of a record: its credential
abbrev pub credential_tail : Option CredParts → List ℕ
credential_tail None = codes "\n"
credential_tail (Some c) = tail_by (config_name c.server) c

-- the end of the line of a record with these bytes in a cache of a version
abbrev pub cache_record_tail : Version → List ℕ → List ℕ
cache_record_tail version bytes = credential_tail (credential_in version bytes)

-- the line of a reply, with the bytes of records read in this version
abbrev pub cache_reply_text : Version → ReplyContent → List ℕ
cache_reply_text version reply = reply_text_by cache_record_tail version reply
