-- What was made of the files follows the plan.
use Rattle.krb_driver.proofs.Cited.{arith, ◌≡◌, ◌⊎◌, inl, inr, ◌∙◌, ℕ, Bool, List, [], ◌∷◌, refl, sym, ap, subst, true≢false, FairOver, GivesLoaded, GivesOf, HoldsIf, Makes, MakesFairly, Opens, fair_first, of_file, CommandPlan, Effect, Fails, IsMade, IsSpent, faults, goes_on, tries, opens, EndsAfter, Tries, effect_by, Ghosts, FileName, Answer, Ends, HeldIf, Holds, Loaded, Loads, loaded-none, Result, Ok, Err, is_ok}
use Rattle.krb_files.specs.declared.files.LoadFault.TheVariants as load
use Rattle.krb_driver.specs.declared.error.RunError.{RunError}
use Rattle.krb_driver.specs.declared.error.RunError.TheVariants as error

-- what was given, without the file's name, and that name
abbrev pub no_file : {X : Type 0} → Result X (List ℕ × RunError) → Result X RunError
no_file (Ok x) = Ok x
no_file (Err met) = Err met.1

-- the effect of an error
abbrev fails_of : {X : Type 0} → Result X (List ℕ × RunError) → Effect
fails_of (Ok x) = Fails [] error.NoMemory
fails_of (Err met) = Fails met.0 met.1

module _ {X : Type 0} (file : FileName) (then_ : X → CommandPlan) (fails : RunError → CommandPlan) where
  -- the plan after what was given, or after the error
  abbrev after : Result X (List ℕ × RunError) → CommandPlan
  after (Ok x) = then_ x
  after (Err met) = fails met.1

  after-file : (given : Result X RunError) → after (of_file file given) ≡ goes_on file given then_ fails
  after-file given = grind arith

  -- the plan that loads a file whose name is of no other type
  abbrev loads : (Answer → Result X RunError) → CommandPlan
  loads gives = Loads file.name.now (λ answer. goes_on file (gives answer) then_ fails)

  module _ (ends : EndsAfter file fails) (gives : Answer → Result X RunError) where
    -- how a command that tried a file goes on
    by-loads : (answer : Answer) (rest : List Answer) → gives (Err load.Failed) ≡ Err error.FileNotRead → gives (Err load.NoMemory) ≡ Err error.NoMemory
        → effect_by (goes_on file (gives answer) then_ fails) rest ≡ effect_by (loads gives) (answer ∷ rest)
    by-loads answer rest failed spent = grind (arith, failed, spent, ends.unread, ends.spent)

    module _ {F : Type 0} (trait : Ghosts F) (old : F) (given : Result X (List ℕ × RunError)) (effect : Effect) (between new : F) where
      after-spent : given ≡ Err (file.name.now, error.NoMemory) → after given ≡ Ends (Fails file.name.now error.NoMemory)
      after-spent spent = ap after spent ∙ ends.spent

      after-given : (answer : Answer) → given ≡ of_file file (gives answer) → after given ≡ goes_on file (gives answer) then_ fails
      after-given answer is = ap after is ∙ after-file (gives answer)

      -- if memory ran out, nothing more was loaded
      none-loaded : (answers : List Answer) (plan : CommandPlan) → given ≡ Err (file.name.now, error.NoMemory) → Loaded trait (after given) between answers new → Loaded trait plan between answers new
      none-loaded answers plan spent l = grind (arith, after-spent spent, l, loaded-none trait faults plan between)

      -- a file was loaded, and this was made of what it gave
      makes-read : GivesLoaded trait old file gives given between → Makes trait between (after given) effect new → Makes trait old (loads gives) effect new
      makes-read o m =
          let loads : Loaded trait (goes_on file (gives o.answer) then_ fails) between m.answers new = grind (arith, o.given_is, none-loaded, after-given o.answer, m.loads) in
          record {
            answers = o.answer ∷ m.answers;
            loads = (between, (o.loads, loads));
            made = grind (arith, m.made, o.given_is, after-spent, after-given o.answer, by-loads o.answer m.answers o.failed o.spent);
          }

      makes-tried : GivesOf trait old file gives given between → Makes trait between (after given) effect new → Makes trait old (tries file gives then_ fails) effect new
      makes-tried (inl o) m = rw o.read (makes-read o m)
      makes-tried (inr o) m =
          let at_first = subst (λ (x : F). Makes trait x (after given) effect new) o.1 m in
          rw o.0 (subst (λ (g : Result X (List ℕ × RunError)). Makes trait old (after g) effect new) o.2 at_first)

-- a file was tried
pub tries_by : {F X : Type 0} (trait : Ghosts F) (old : F) (file : FileName) (gives : Answer → Result X RunError) (given : Result X (List ℕ × RunError)) (new : F) → GivesOf trait old file gives given new → Tries trait old file gives (no_file given) new
tries_by trait old file gives (Ok x) new o = λ then_ fails effect end ends made. makes-tried file then_ fails ends gives trait old (Ok x) effect new end o made
tries_by trait old file gives (Err met) new o = λ then_ fails effect end ends made. makes-tried file then_ fails ends gives trait old (Err met) effect new end o made

-- an error ends a command that opens a file
abbrev fails_by : FileName → RunError → CommandPlan
fails_by file why = Ends (Fails file.name.now why)

ends_by : (file : FileName) → EndsAfter file (fails_by file)
ends_by file = record { spent = refl; unread = refl }

-- an error has the name of the file
named-so : {F X : Type 0} (trait : Ghosts F) (old : F) (file : FileName) (gives : Answer → Result X RunError) (met : List ℕ × RunError) (new : F) → GivesOf trait old file gives (Err met) new → met.0 ≡ file.name.now
named-so trait old file gives met new (inl o) = grind (arith, o.given_is)
named-so trait old file gives met new (inr o) = grind (arith, o.2)

-- what was made without a load
pub makes-end : {F : Type 0} (trait : Ghosts F) (old : F) (due effect : Effect) → IsMade due effect → Makes trait old (Ends due) effect old
makes-end trait old due effect made = record { answers = []; loads = (refl, refl); made = made }

-- the error was made of a file that was not opened
makes-failed : {F X : Type 0} (trait : Ghosts F) (old : F) (file : FileName) (gives : Answer → Result X RunError) (met : List ℕ × RunError) (new : F) → GivesOf trait old file gives (Err met) new
    → Makes trait new (Ends (Fails file.name.now met.1)) (Fails met.0 met.1) new
makes-failed trait old file gives met new o = makes-end trait new (Fails file.name.now met.1) (Fails met.0 met.1) (inr (ap (λ (name : List ℕ). Fails name met.1) (named-so trait old file gives met new o)))

-- a file was opened
pub opens_by : {F X : Type 0} (trait : Ghosts F) (old : F) (file : FileName) (gives : Answer → Result X RunError) (given : Result X (List ℕ × RunError)) (new : F) → GivesOf trait old file gives given new → Opens trait old file gives given new
opens_by trait old file gives (Ok x) new o = λ then_ effect end made. makes-tried file then_ (fails_by file) (ends_by file) gives trait old (Ok x) effect new end o made
opens_by trait old file gives (Err met) new o = λ then_. makes-tried file then_ (fails_by file) (ends_by file) gives trait old (Err met) (Fails met.0 met.1) new new o (makes-failed trait old file gives met new o)

-- a file was held, or not
pub makes_holds : {F : Type 0} (trait : Ghosts F) (old new : F) (held : Bool) (file : List ℕ) → HeldIf trait held file old new → HoldsIf trait old held file new
makes_holds trait old new held file holds = λ plan effect end made. record { answers = made.answers; loads = inr (new, (holds, made.loads)); made = made.made }

abbrev spent_file : {X : Type 0} → FileName → Result X (List ℕ × RunError)
spent_file file = Err (file.name.now, error.NoMemory)

gave : {X : Type 0} (Fair : X → Type 0) (file : FileName) (x : X) (given : Result X RunError) → (Ok x ≡ spent_file {X = X} file) ⊎ (Ok x ≡ of_file file given) → Fair x → FairOver Fair given
gave Fair file x given is fair = grind (arith, is, fair)

gave-none : {X : Type 0} (Fair : X → Type 0) (file : FileName) (name : List ℕ) (why : RunError) (given : Result X RunError) → Err (name, why) ≡ of_file file given → FairOver Fair given
gave-none Fair file name why given is = grind (arith, is)

-- of what was opened the due effect was made, and `Fair` holds of it
pub makes-fairly : {F X : Type 0} (trait : Ghosts F) (old : F) (file : FileName) (gives : Answer → Result X RunError) (due : X → Effect) (Fair : X → Type 0) (x : X) (effect : Effect) (new : F)
    → GivesOf trait old file gives (Ok x) new → IsMade (due x) effect → IsSpent effect ⊎ Fair x → MakesFairly trait old (opens file gives (λ y. Ends (due y))) (fair_first gives Fair) effect new
unfolding makes-read
makes-fairly {X = X} trait old file gives due Fair x effect new (inl o) made fair =
    let then_ : X → CommandPlan = λ y. Ends (due y) in
    rw o.read (record {
      makes = makes-read file then_ (fails_by file) (ends_by file) gives trait old (Ok x) effect new new o (makes-end trait new (due x) effect made);
      fair = elim fair [
        | inl spent ↦ inl spent
        | inr fair ↦ inr (gave Fair file x (gives o.answer) o.given_is fair)
      ];
    })
makes-fairly trait old file gives due Fair x effect new (inr o) made fair = absurd (true≢false (ap is_ok o.2))

-- nothing was opened
pub fairly-failed : {F X : Type 0} (trait : Ghosts F) (old : F) (file : FileName) (gives : Answer → Result X RunError) (then_ : X → CommandPlan) (Fair : X → Type 0) (name : List ℕ) (why : RunError) (new : F)
    → GivesOf trait old file gives (Err (name, why)) new → MakesFairly trait old (opens file gives then_) (fair_first gives Fair) (Fails name why) new
unfolding makes-read
fairly-failed trait old file gives then_ Fair name why new (inl o) = rw o.read (record {
  makes = makes-read file then_ (fails_by file) (ends_by file) gives trait old (Err (name, why)) (Fails name why) new new o (makes-failed trait old file gives (name, why) new (inl o));
  fair = elim o.given_is [
    | inl spent ↦ inl (file.name.now, ap fails_of spent)
    | inr is ↦ inr (gave-none Fair file name why (gives o.answer) is)
  ];
})
fairly-failed trait old file gives then_ Fair name why new (inr o) =
    subst (λ (e : Effect). MakesFairly trait old (opens file gives then_) (fair_first gives Fair) e new) (sym (ap fails_of o.2))
    (rw o.0 (record { makes = record { answers = []; loads = (refl, o.1); made = inr refl }; fair = inr tt }))

pub fairly-holds : {F : Type 0} (trait : Ghosts F) (old new end : F) (held : Bool) (file : List ℕ) (plan : CommandPlan) (Fairly : List Answer → Type 0) (effect : Effect) → HeldIf trait held file old new → MakesFairly trait new plan Fairly effect end → MakesFairly trait old (Holds held file plan) Fairly effect end
unfolding makes_holds
fairly-holds trait old new end held file plan Fairly effect holds made =
    record { makes = makes_holds trait old new held file holds plan effect end made.makes; fair = made.fair }
