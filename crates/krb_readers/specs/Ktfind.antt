-- What ktfind does.
use Rattle.std.specs.Prelude.{ℕ, List, codes, Result, Ok, Err}
use Rattle.krb_wire.specs.declared.format.Order.{Order}
use Rattle.krb_wire.specs.Spelling.{Parts}
use Rattle.krb_walk.specs.declared.refusal.Code.{Code}
use Rattle.krb_keytab.specs.Find.{PlacedEntry, find_result}
use Rattle.krb_keytab.specs.Store.{KeytabState}
use Rattle.krb_files.specs.Plan.{Ends}
use Rattle.krb_keytab_text.specs.Listing.{found_line}
use Rattle.krb_driver.specs.declared.error.RunError.TheVariants.{Refused}
use Rattle.krb_driver.specs.declared.verdict.FileKind.TheVariants.{Keytab}
use Rattle.krb_driver.specs.declared.verdict.Verdict.TheVariants.{Well}
use Rattle.krb_driver.specs.declared.file_name.FileName.{FileName}
use Rattle.krb_driver.specs.Commands.{CommandPlan, Effect, Fails, Displays, opens, text}
use Rattle.krb_driver.specs.Mistakes.{Matched, v1_order, MistakeParts}
use Rattle.krb_driver.specs.Spelled.{◌>>=◌, spelled_etype, spelled_name, spelled_version}
use Rattle.krb_driver.specs.Loading.{keytab_in}

-- what ktfind looks for: a name, a kvno or 0 for the highest, an enctype or 0 for any; and the byte order of version 1 keytabs
pub record EntrySought : Type 0 where
  pub name : Parts
  pub kvno : ℕ
  pub enctype : ℕ
  pub v1_order : Order

-- what ktfind does: it prints the line of the entry that was found, or reports why none was
abbrev pub found : List ℕ → Result PlacedEntry Code → Effect
found file (Ok entry) = Displays file (text (found_line entry) Well)
found file (Err code) = Fails file (Refused Keytab code)

-- ktfind looks up an entry in a keytab and prints it
abbrev pub finds : EntrySought → List ℕ → KeytabState → Effect
finds o file k = found file (find_result k o.name o.kvno o.enctype)

-- the plan of ktfind: the file is opened as a keytab, and an entry is looked up
abbrev pub ktfind_plan : EntrySought → FileName → CommandPlan
ktfind_plan o file = opens file (keytab_in o.v1_order) (λ k. Ends (finds o file.name.now k))

-- ---- what the words ask for

-- what the words of ktfind ask for, or their first mistake
abbrev pub entry_sought_of : Matched → Result EntrySought MistakeParts
entry_sought_of words = do
  kvno ← spelled_version (words.operand (codes "KVNO"))
  enctype ← spelled_etype (words.operand (codes "ETYPE"))
  name ← spelled_name (words.operand (codes "NAME"))
  Ok (record { name = name; kvno = kvno; enctype = enctype; v1_order = v1_order words })
