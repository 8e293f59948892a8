-- Plans over files: which files are loaded, one after the other, and the outcome by their results.
use Rattle.std.specs.Prelude.{◌≡◌, ◌⊎◌, ℕ, Bool, true, false, List, [], ◌∷◌, None, Some, if◌then◌else◌, Err}
use Rattle.std.specs.Str.{bytes_eq}
use Rattle.krb_files.specs.declared.files.Files.{Ghosts}
use Rattle.krb_files.specs.declared.files.LoadFault.TheVariants as load
use Rattle.krb_files.specs.Files.{FileMap, loaded}
use Rattle.krb_files.specs.Loading.{Answer, LoadsFile, TurnsHold, most_bytes}

-- a plan over files: it `Ends` with an outcome, or `Holds` a file, if the flag is set, before the rest, or `Loads` a file, whose result selects the rest
pub data Plan (R : Type 0) : Type 0 where
  Ends : R → Plan R
  Holds : Bool → List ℕ → Plan R → Plan R
  Loads : List ℕ → (Answer → Plan R) → Plan R

-- the outcomes of a plan where a file was not read, and where memory ran out
pub record Faults (R : Type 0) : Type 0 where
  pub unread : List ℕ → R
  pub spent : List ℕ → R

-- the outcome of a plan by the results of its loads: a failed load ends it, and so does memory that ran out
abbrev pub by : {R : Type 0} → Faults R → Plan R → List Answer → R
by faults (Ends r) answers = r
by faults (Holds held name plan) answers = by faults plan answers
by faults (Loads name then_) [] = faults.spent name
by faults (Loads name then_) (Err load.Failed ∷ answers) = faults.unread name
by faults (Loads name then_) (Err load.NoMemory ∷ answers) = faults.spent name
by faults (Loads name then_) (answer ∷ answers) = by faults (then_ answer) answers

-- the file of a name is held, if the flag is set, which took the files from `old` to `new`
abbrev pub HeldIf : {F : Type 0} → Ghosts F → Bool → List ℕ → F → F → Type 0
HeldIf trait true name old new = TurnsHold trait (Some name) old new
HeldIf trait false name old new = new ≡ old

-- the holds and loads of a plan, or the first of them, were done one after the other, with these results, which took the files from `old` to `new`
abbrev pub Loaded : {F R : Type 0} → Ghosts F → Plan R → F → List Answer → F → Type 0
Loaded trait (Ends r) old answers new = (answers ≡ []) × (new ≡ old)
Loaded {F = F} trait (Holds held name plan) old answers new = ((answers ≡ []) × (new ≡ old)) ⊎ ((between : F) × (HeldIf trait held name old between × Loaded trait plan between answers new))
Loaded trait (Loads name then_) old [] new = new ≡ old
Loaded {F = F} trait (Loads name then_) old (answer ∷ answers) new = (between : F) × (LoadsFile trait old name answer between × Loaded trait (then_ answer) between answers new)

-- the hold that the plan began with was ended, if it began with one; otherwise nothing changed
abbrev pub Leaves : {F R : Type 0} → Ghosts F → Plan R → F → F → Type 0
Leaves trait (Holds true name plan) old new = TurnsHold trait None old new
Leaves trait plan old new = new ≡ old

-- the outcome of a plan over files with these bytes, if no call fails and memory does not run out
abbrev pub follow : {R : Type 0} → FileMap → Plan R → R
follow files (Ends r) = r
follow files (Holds held name plan) = follow files plan
follow files (Loads name then_) = follow files (then_ (loaded (files name) most_bytes))

-- files, where the file of a name has these bytes
abbrev pub with_bytes : FileMap → List ℕ → List ℕ → FileMap
with_bytes files name bytes other = if bytes_eq other name then Some bytes else files other
