-- Files in memory.
use Rattle.std.specs.Prelude.{◌≡◌, ◌⊎◌, ◌==◌, ◌||◌, ℕ, ◌+◌, ◌-◌, ◌^◌, List, [], ◌∷◌, Bool, true, false, if◌then◌else◌, find, map, Option, None, option_map, string_bytes, String, Vec, Result, Ok, Err, IsOk}
use Rattle.std.specs.Str.{bytes_eq}
use Rattle.krb_files.specs.declared.files.LoadFault.{LoadFault}
use Rattle.krb_files.specs.declared.files.LoadFault.TheVariants.{Failed, NoMemory}
use Rattle.krb_files.specs.declared.files.SaveFault.{SaveFault}
use Rattle.krb_files.specs.declared.files.SaveFault.TheVariants as save
use Rattle.krb_files.specs.Files.{FileMap}

-- the name and the bytes of each file
abbrev pub pairs_of : {A B : Type 0} → List (String A × Vec ℕ B) → List (List ℕ × List ℕ)
pairs_of files = map (λ file. (string_bytes file.0, file.1.items)) files

-- the bytes of the first file of that name
abbrev pub file_in : List (List ℕ × List ℕ) → FileMap
file_in files name = option_map (λ file. file.1) (find (λ file. bytes_eq file.0 name) files)

-- the files with these bytes in the first of that name, or in one more after the last if none has it
abbrev pub with_file : List (List ℕ × List ℕ) → List ℕ → List ℕ → List (List ℕ × List ℕ)
with_file [] name bytes = (name, bytes) ∷ []
with_file (file ∷ files) name bytes =
    if bytes_eq file.0 name then (file.0, bytes) ∷ files else file ∷ with_file files name bytes

-- files in memory: the files, which later call fails (counted from 1, 0 for none), how many failed, the mode of each file, and the name of the one that is held
pub record Memory : Type 0 where
  pub files : List (List ℕ × List ℕ)
  pub failing : ℕ
  pub failures : ℕ
  pub mode : Option ℕ
  pub held : Option (List ℕ)

-- no file is held any more
abbrev pub left : Memory → Memory
left m = record m { held = None }

-- the next call fails
abbrev pub failing_next : Memory → Bool
failing_next m = (m.failures == 2 ^ 64 - 1) || (m.failing == 1)

-- the files after a call: it is counted if it failed; at the greatest count nothing changes any more
abbrev pub after_call : Memory → Memory
after_call m =
    if m.failures == 2 ^ 64 - 1 then m
    else (if m.failing == 1 then record m { failing = 0; failures = m.failures + 1 }
    else record m { failing = m.failing - 1 })

-- an allocation failed for a copy of what was loaded, or the load failed with this fault
abbrev pub FaultOf : Result (List ℕ) LoadFault → LoadFault → Type 0
FaultOf load fault = ((fault ≡ NoMemory) × IsOk load) ⊎ (load ≡ Err fault)

-- a load that is to fail returns `Failed`; any other returns what is there, or an allocation failed for the copy
abbrev pub AnswersOf : Bool → Result (List ℕ) LoadFault → Result (List ℕ) LoadFault → Type 0
AnswersOf true load answer = answer ≡ Err Failed
AnswersOf false load (Ok bytes) = load ≡ Ok bytes
AnswersOf false load (Err fault) = FaultOf load fault

-- a save that is not to fail sets the file, or an allocation failed for the copy and nothing changed
abbrev pub SavesIn : Memory → List ℕ → List ℕ → Result (Unit {0}) SaveFault → Memory → Type 0
SavesIn m name bytes (Ok done) after = after ≡ record m { files = with_file m.files name bytes }
SavesIn m name bytes (Err fault) after = (fault ≡ save.NoMemory) × (after ≡ m)

-- a save that is to fail returns `Failed` and changes no file; any other sets the file or is out of memory
abbrev pub SavesOf : Bool → Memory → List ℕ → List ℕ → Result (Unit {0}) SaveFault → Memory → Type 0
SavesOf true m name bytes answer after = (answer ≡ Err save.Failed) × (after ≡ m)
SavesOf false m name bytes answer after = SavesIn m name bytes answer after
