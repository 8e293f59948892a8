-- What the words of ktmatch ask for.
use Rattle.std.specs.Prelude.{codes, Bool, Result, Ok}
use Rattle.krb_wire.specs.declared.format.Order.{Order}
use Rattle.krb_driver.specs.Mistakes.{Matched, MistakeParts, v1_order}
use Rattle.krb_driver.specs.Spelled.{◌>>=◌, spelled_asked}
use Rattle.krb_names.specs.Asked.{AskedParts}

-- what ktmatch is asked for: the byte order of version 1 keytabs, `-q`, `--json` and `-H`, and the names of the tickets to look at, or those of services if any is asked for
pub record TicketMatch : Type 0 where
  pub v1_order : Order
  pub quiet : Bool
  pub json : Bool
  pub with_filename : Bool
  pub names : AskedParts

-- what the words of ktmatch ask for, or their first mistake
abbrev pub ticket_match_of : Matched → Result TicketMatch MistakeParts
ticket_match_of words = do
  names ← spelled_asked words (codes "principal")
  Ok (record {
    v1_order = v1_order words;
    quiet = words.flag (codes "quiet");
    json = words.flag (codes "json");
    with_filename = words.flag (codes "with-filename");
    names = names;
  })
