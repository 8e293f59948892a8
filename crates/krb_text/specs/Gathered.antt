-- Buffered output: text goes to a writer in pieces, and the last piece is still gathered.
use Rattle.std.specs.Prelude.{◌≡◌, ℕ, List, [], ◌++◌, Option, Result, OnOk, OnErr}
use Rattle.std.specs.Io.KnownBytes.{Appends}
use Rattle.krb_files.specs.declared.output.OutFault.{OutFault}
use Rattle.krb_files.specs.Bytes.{AppendsPrefix, Watch, is_write_fault}

-- a prefix of what was gathered was written, and the rest is still gathered
pub record Sent (old new : Option (List ℕ)) (before after : List ℕ) : Type 0 where
  pub sent : List ℕ
  pub appends : Appends old new sent
  pub parts : before ≡ sent ++ after

-- a prefix of the whole text was written, what follows it is gathered, and the rest is still to come
pub record Passed (old new : Option (List ℕ)) (whole rest gathered : List ℕ) : Type 0 where
  pub sent : List ℕ
  pub appends : Appends old new sent
  pub parts : whole ≡ sent ++ (gathered ++ rest)

-- a text was written, or a prefix of it if the result is an error
pub record Prints {T : Type 0} (old new : Watch) (result : Result T OutFault) (text : List ℕ) : Type 0 where
  pub ok : OnOk result (Appends old.contents new.contents text)
  pub prefix : OnErr result (AppendsPrefix old.contents new.contents text)
  pub failed : new.failed ≡ is_write_fault result

-- a text was gathered after what was gathered before, and a prefix of the two together was written
pub record Gathers {T : Type 0} (old new : Watch) (before after : List ℕ) (result : Result T OutFault) (text : List ℕ) : Type 0 where
  pub ok : OnOk result (Passed old.contents new.contents (before ++ text) [] after)
  pub prefix : OnErr result (AppendsPrefix old.contents new.contents (before ++ text))
  pub failed : new.failed ≡ is_write_fault result
