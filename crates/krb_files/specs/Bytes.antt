-- What a writer took of a text, if its contents are known.
use Rattle.std.specs.Prelude.{◌≡◌, ℕ, List, ◌++◌, Option, Bool, true, false, Result, Ok, Err, ◌≤◌, length}
use Rattle.std.specs.Io.KnownBytes.{Appends, Consumes}
use Rattle.krb_files.specs.declared.output.OutFault.{OutFault}
use Rattle.krb_files.specs.declared.output.OutFault.TheVariants.{Write, NoMemory}
use Rattle.krb_files.specs.declared.files.LoadFault.{LoadFault}
use Rattle.krb_files.specs.declared.files.LoadFault.TheVariants.{Failed}

-- what was written to an output so far, if known, and whether it has failed
pub record Watch : Type 0 where
  pub contents : Option (List ℕ)
  pub failed : Bool

-- an output went from `old` to `new` by a prefix of the text
pub record AppendsPrefix (old new : Option (List ℕ)) (text : List ℕ) : Type 0 where
  pub prefix : List ℕ
  pub rest : List ℕ
  pub appends : Appends old new prefix
  pub splits : text ≡ prefix ++ rest

-- the writer failed, rather than an allocation
abbrev pub is_write_fault : {T : Type 0} → Result T OutFault → Bool
is_write_fault (Ok x) = false
is_write_fault (Err Write) = true
is_write_fault (Err NoMemory) = false

-- ---- what a reader returned, if what is left to read is known

-- at most n bytes were read, from `old` to `new`
pub record ConsumesAtMost (old new : Option (List ℕ)) (n : ℕ) : Type 0 where
  pub taken : List ℕ
  pub consumes : Consumes old new taken
  pub bound : length taken ≤ n

-- what a reader has left to read, if known, and whether it has failed
pub record Source : Type 0 where
  pub left : Option (List ℕ)
  pub failed : Bool

-- a load's fault is that the file or the reader failed
abbrev pub is_failed : LoadFault → Bool
is_failed Failed = true
is_failed fault = false

-- the result of a load is that the file or the reader failed
abbrev pub is_read_fault : {T : Type 0} → Result T LoadFault → Bool
is_read_fault (Ok x) = false
is_read_fault (Err fault) = is_failed fault
