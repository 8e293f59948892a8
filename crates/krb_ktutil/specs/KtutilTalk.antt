-- A run of ktutil, line by line, with its prompts.
use Rattle.std.specs.Prelude.{◌≡◌, ℕ, Bool, true, false, List, ◌∷◌, [], ◌++◌, codes, ◌≢◌, ◌⊎◌, ◌||◌, ◌&&◌, not, ◌+◌, ◌<◌, ◌≤◌, max, take, IsTrue, IsFalse, length, Option, Some, None, IfSome, Err}
pub use Rattle.krb_driver.specs.Runs.{ErrorWatch, Writes, ReportsEnd}
use Rattle.krb_files.specs.declared.files.LoadFault.TheVariants.{Missing, TooLarge}
pub use Rattle.std.specs.Io.KnownBytes.{Consumes}
pub use Rattle.krb_files.specs.Bytes.{Watch, Source, is_failed, ConsumesAtMost}
pub use Rattle.krb_driver.specs.declared.reporting.details.Details.{Details}
pub use Rattle.krb_driver.specs.Commands.{Finishes, Keeps, Effect, Ghosts, follow}
pub use Rattle.krb_driver.specs.declared.command.RunEnd.{RunEnd}
pub use Rattle.krb_driver.specs.declared.command.World.{World}
use Rattle.krb_ktutil.specs.KtutilPlan.{Awaited, Awaiting, Key, Nothing, Order, Password, key_prompt, KtutilState, plan_of, ComesDue, MakesLine, Spares}
pub use Rattle.krb_ktutil.specs.InputLines.{CutsOff, lines_of}
pub use Rattle.krb_files.specs.Loading.{most_bytes}
pub use Rattle.krb_driver.specs.RunErrors.{Ending, error_status, input_error, is_spent, LoadFault}

-- the prompt before a line
abbrev pub prompt_of : Awaiting Awaited → List ℕ
prompt_of Nothing = codes "ktutil: "
prompt_of (Key x) = key_prompt x.principal
prompt_of Password = codes "password (not used): "

-- a prompt was written, from the error output `err` to `err'`, if there are prompts
abbrev pub Prompts : Bool → List ℕ → ErrorWatch → ErrorWatch → Type 0
Prompts true prompt old new = Writes old.to new.to prompt × (new.explains ≡ old.explains)
Prompts false prompt old new = new ≡ old

-- ---- for private contracts

-- if there are prompts, that text was written after what was written since some start
abbrev pub PromptsOn : Bool → List ℕ → ErrorWatch → ErrorWatch → Type 0
PromptsOn prompts text old new = (start : ErrorWatch) (before : List ℕ) → Prompts prompts before start old → Prompts prompts (before ++ text) start new

-- ---- a run of ktutil, line by line

-- another line may come: the one before does not end the run, and memory did not run out
abbrev pub goes_on : Bool → Ending → Bool
goes_on quits ending = not quits && not (is_spent ending)

-- where a run of ktutil is, between two lines: the files, the list and what is awaited, the outputs, and the greatest status so far
pub record Talk (F : Type 0) : Type 0 where
  pub files : F
  pub state : KtutilState
  pub out : Watch
  pub err : ErrorWatch
  pub status : ℕ

-- where a run of ktutil begins
abbrev pub first_talk : {F : Type 0} → Order → F → Watch → ErrorWatch → Talk F
first_talk order files out err = record {
  files = files;
  state = record { order = order; entries = []; awaiting = Nothing };
  out = out;
  err = err;
  status = 0;
}

-- the first lines of an input
abbrev pub AreFirst : List (List ℕ) → Option (List ℕ) → Type 0
AreFirst lines given = IfSome given (λ bytes. (more : List (List ℕ)) × (lines_of bytes ≡ lines ++ more))

module _ {F : Type 0} (trait : Ghosts F) (now : ℕ) where
  -- a line of ktutil was made by its plan, done and reported, which took the run from `old` to `new`
  pub record HandlesLine (number : ℕ) (line : List ℕ) (old new : Talk F) : Type 0 where
    pub effect : Effect
    pub quits : Bool
    pub made : F
    pub makes : MakesLine trait (plan_of old.state now number line) old.files made old.state new.state effect quits
    pub spares : Spares old.state new.state effect
    pub end : RunEnd
    pub finishes : Finishes trait (Some number) effect made new.files old.out new.out old.err new.err end
    pub worst : new.status ≡ max old.status end.status
    -- honest files stay honest, and the count of failures never falls
    pub lasts : (trait.is_honest old.files → trait.is_honest new.files) × (trait.failure_count old.files ≤ trait.failure_count new.files)
    -- over honest files what is due was made, and done
    pub due : trait.is_honest old.files → ComesDue trait (follow (trait.file old.files) (plan_of old.state now number line)) old.files made new.state effect quits
    pub honest : trait.is_honest old.files → Keeps trait (follow (trait.file old.files) (plan_of old.state now number line)).effect old.files new.files finishes.left

  -- a line of ktutil was run, and this is whether another may come: not after an end, or if memory ran out or the output failed
  abbrev pub HandlesNext : ℕ → List ℕ → Talk F → Talk F → Bool → Type 0
  HandlesNext number line old new true = (handles : HandlesLine number line old new) × IsTrue (goes_on handles.quits handles.end.ending) × IsFalse new.out.failed
  HandlesNext number line old new false = (handles : HandlesLine number line old new) × (IsFalse (goes_on handles.quits handles.end.ending) ⊎ IsTrue new.out.failed)

  module _ (prompts : Bool) where
    -- lines of ktutil were run one after the other, each after its prompt, the first with that number, which took the run from `old` to `new`
    abbrev pub TalksOver : ℕ → List (List ℕ) → Talk F → Talk F → Type 0
    TalksOver number [] old new = new ≡ old
    TalksOver number (line ∷ lines) old new =
        (asked : ErrorWatch) × (between : Talk F) × Prompts prompts (prompt_of old.state.awaiting) old.err asked
        × HandlesNext number line (record old { err = asked }) between true × TalksOver (number + 1) lines between new

    module _ (input input' : Source) (lines : List (List ℕ)) (last end : Talk F) where
      -- the input of ktutil has these lines and no more; a newline is written after the last prompt
      pub record EndsAfterLines : Type 0 where
        pub all : IfSome input.left (λ bytes. lines_of bytes ≡ lines)
        pub well : input'.failed ≡ input.failed
        pub prompted : Prompts prompts (prompt_of last.state.awaiting ++ 10 ∷ []) last.err end.err
        pub same : end ≡ record last { err = end.err }

      -- a line of ktutil more was run after its prompt, and it was the last
      pub record EndsInLine : Type 0 where
        pub line : List ℕ
        pub first : AreFirst (lines ++ line ∷ []) input.left
        pub well : input'.failed ≡ input.failed
        pub asked : ErrorWatch
        pub prompted : Prompts prompts (prompt_of last.state.awaiting) last.err asked
        pub stops : HandlesNext (length lines + 1) line (record last { err = asked }) end false

      -- no more of the input was read after the prompt, and the reason was reported; what was cut off is not a line
      pub record EndsUnread : Type 0 where
        pub fault : LoadFault
        pub first : AreFirst lines input.left
        pub never : fault ≢ Missing
        pub too_large : fault ≡ TooLarge → IfSome input.left (λ bytes. most_bytes < length bytes)
        pub failed : input'.failed ≡ (is_failed fault || input.failed)
        -- of what was read, within what an input may have, each line that has its newline was run
        pub read : List ℕ
        pub consumes : Consumes input.left input'.left read
        pub due : CutsOff lines (take most_bytes read) ⊎ IfSome input.left (λ bytes. lines_of bytes ≡ lines)
        pub asked : ErrorWatch
        pub prompted : Prompts prompts (prompt_of last.state.awaiting) last.err asked
        pub details : Details
        pub writes : ReportsEnd [] None details (Err (input_error fault)) asked end.err
        pub untold : details.aftermath ≡ None
        pub worst : end.status ≡ max last.status (error_status (input_error fault))
        pub files : end.files ≡ last.files
        pub out : end.out ≡ last.out

      -- why no line of ktutil came after these
      abbrev pub EndsTalk : Type 0
      EndsTalk = EndsAfterLines ⊎ (EndsInLine ⊎ EndsUnread)

-- ---- what a run of ktutil does

-- a run of ktutil took the world from `old` to `new` with this status: the lines of the input were run in order, each after its prompt if there are prompts, up to one that is the last or to the end
pub record RunsKtutil {F R W E : Type 0} (trait : Ghosts F) (order : Order) (prompts : Bool) (now : ℕ) (old new : World F R W E) (status : ℕ) : Type 0 where
  pub lines : List (List ℕ)
  pub last : Talk F
  pub state : KtutilState
  pub talked : TalksOver trait now prompts 1 lines (first_talk order old.files old.out old.err) last
  pub ends : EndsTalk trait now prompts old.input new.input lines last (record { files = new.files; state = state; out = new.out; err = new.err; status = status })
  pub taken : ConsumesAtMost old.input.left new.input.left (most_bytes + 1)
