-- Scripts, line by line.
use Rattle.krb_keytab_text.proofs.Cited.{arith, ◌≡◌, ℕ, ◌+◌, List, [], ◌∷◌, ◌++◌, true, Result, append_assoc, IsOk, IsOkAnd, LineFault, is_command, commands_from, faults_of, commands_read, read_or_fault, script_of, RefusesScript, TakesMemory}
use Rattle.krb_text.specs.declared.line_fault.ScriptRefusal.{ScriptRefusal}

-- a line was read: it has no fault, and what it is read as comes before what the lines after it are read as
pub record GivesLine {L : Type 0} (line_in : List ℕ → Result L LineFault) (n : ℕ) (line : List ℕ) (rest : List (List ℕ)) (old new : List L) : Type 0 where
  pub faults : faults_of line_in (commands_from n (line ∷ rest)) ≡ faults_of line_in (commands_from (n + 1) rest)
  pub read_lines : old ++ commands_read line_in (commands_from n (line ∷ rest)) ≡ new ++ commands_read line_in (commands_from (n + 1) rest)

-- a command that is read without a fault is appended
pub gives_line : {L : Type 0} (line_in : List ℕ → Result L LineFault) (n : ℕ) (line : List ℕ) (rest : List (List ℕ)) (old new : List L) → is_command line ≡ true → IsOkAnd (line_in line) (λ x. new ≡ old ++ x ∷ []) → GivesLine line_in n line rest old new
gives_line line_in n line rest old new asks added = search (arith, append_assoc)

-- the fault of the first faulty line is that of the script
pub refuses_script : {L : Type 0} (line_in : List ℕ → Result L LineFault) (n : ℕ) (line : List ℕ) (rest : List (List ℕ)) (read_lines : List L) (e : ScriptRefusal) → is_command line ≡ true
    → RefusesScript (script_of line_in ((n, line) ∷ [])) e → RefusesScript (read_or_fault (faults_of line_in (commands_from n (line ∷ rest))) read_lines) e
refuses_script line_in n line rest read_lines e asks h = search arith

-- if the next line is a command without a fault, reading on may run out of memory
pub takes_memory : {L : Type 0} (line_in : List ℕ → Result L LineFault) (n : ℕ) (line : List ℕ) (rest : List (List ℕ)) → is_command line ≡ true → IsOk (line_in line) → TakesMemory line_in (commands_from n (line ∷ rest))
takes_memory line_in n line rest asks h = rw asks h

-- a result that is a value with a property is a value
pub ok_of_and : {T E : Type 0} (P : T → Type 0) (r : Result T E) → IsOkAnd r P → IsOk r
ok_of_and P r h = search arith
