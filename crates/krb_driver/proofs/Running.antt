-- What a run of a command keeps.
use Rattle.krb_driver.proofs.Cited.{◌≡◌, ◌⊎◌, inl, inr, ◌∙◌, ℕ, ◌≤◌, Bool, List, [], refl, sym, ap, subst, arith, Watch, ErrorWatch, Run, Shows, ends_by, EndsCommand, Finishes, Keeps, MakesFairly, Settles, ShowsEnd, ShowsPage, Takes, CommandPlan, Displays, Effect, Fails, IsSpent, Page, Saves, faults, files_after, saved_end, settled, text, effect_by, if_unread, ending_of, if◌then◌else◌, ◌∷◌, or_left, or_right, Ghosts, Answer, SavesFile, TurnsHold, Ending, is_spent, is_unread, RunEnd, Verdict, Ends, Holds, Loads, Loaded, Faults, by, follow, Lasts, comes, count-more, count-trans, loaded-lasts, same-trans, with_bytes-set, Option, None, Result, Ok, Err, IsTrue, ◌||◌}
use Rattle.krb_files.specs.declared.files.SaveFault.{SaveFault}
use Rattle.krb_files.specs.declared.files.SaveFault.TheVariants as save
use Rattle.krb_files.specs.declared.files.LoadFault.TheVariants as load
use Rattle.krb_files.specs.Files.{SameFiles, CountsFailure}
use Rattle.krb_driver.specs.declared.error.RunError.TheVariants as error
use Rattle.krb_driver.specs.declared.command.World.{World}

module _ (out out' : Watch) (ending : Ending) (spent : ending ≡ Err error.NoMemory) where
  -- the output did not fail, so the run was to end out of memory
  due-spent : (failed : Bool) → failed ≡ out'.failed → (due : Run) → Shows due out out' ending → due.ending ≡ Err error.NoMemory
  due-spent failed is due shows = grind (arith, is, shows.failed, shows.done, spent)

  -- only a page that takes memory, or reports that it ran out, ends out of memory
  page-takes : (page : Page) → ShowsPage out out' ending page → IsTrue (page.takes || is_spent page.ending)
  page-takes page shows = grind (arith, shows, due-spent out'.failed refl, or_left, or_right)

  pub quiet-end : (end : Effect) → ShowsEnd out out' ending end → Shows (ends_by error.NoMemory) out out' ending ⊎ Takes end
  quiet-end (Fails file why) shows =
      let is = due-spent out'.failed refl (ends_by why) shows in
      inl (subst (λ (e : Ending). Shows (record { out = []; ending = e }) out out' ending) is shows)
  quiet-end (Displays file page) shows = inr (page-takes page shows)
  quiet-end (Saves file bytes text verdict) shows = absurd shows

  module _ {F : Type 0} (trait : Ghosts F) (old new : F) (h : trait.is_honest old) where
    saved-spared : (file bytes text : List ℕ) (verdict : Verdict) (answer : Result (Unit {0}) SaveFault) (end : Effect) → SavesFile trait old file bytes answer new → end ≡ saved_end file text verdict answer → ShowsEnd out out' ending end
        → SameFiles (trait.file old) (trait.file new)
    saved-spared file bytes text_ verdict answer end saves is shows = grind (arith, is, page-takes, shows, saves.same h)

    pub settles-spared : (effect end : Effect) → Settles trait old effect new end → ShowsEnd out out' ending end → SameFiles (trait.file old) (trait.file new)
    settles-spared effect end s shows = grind (arith, s, shows, saved-spared)

module _ {F O : Type 0} (trait : Ghosts F) (outcomes : Faults O) (due : Effect) (old between new : F) (h : trait.is_honest old) (lasts : Lasts trait outcomes old between) where
  same-then : new ≡ between → SameFiles (trait.file old) (trait.file new)
  same-then is = subst (λ (x : F). SameFiles (trait.file old) (trait.file x)) (sym is) (lasts.same h)

  keeps-spent : (file : List ℕ) (left : Effect) → Settles trait between (Fails file error.NoMemory) new left → Keeps trait due old new left
  keeps-spent file left s = inr (inr (same-then s.0, (file, s.1)))

  abbrev IsUnread : Effect → Type 0
  IsUnread effect = CountsFailure (trait.failure_count old) (trait.failure_count between) × IsTrue (is_unread (ending_of effect))

  keeps-reported : (effect left : Effect) → new ≡ between → left ≡ effect → IsUnread effect → Keeps trait due old new left
  keeps-reported effect left same is unread = grind (arith, same, is, unread, same-then)

  -- a file was not read, and the effect reports that
  keeps-unread : (effect left : Effect) → Settles trait between effect new left → IsUnread effect → Keeps trait due old new left
  keeps-unread effect left s unread = grind (arith, keeps-reported, s, unread)

  keeps-saved : (file bytes text : List ℕ) (verdict : Verdict) (answer : Result (Unit {0}) SaveFault) (left : Effect) → Saves file bytes text verdict ≡ due → SavesFile trait between file bytes answer new
      → left ≡ saved_end file text verdict answer → Keeps trait due old new left
  keeps-saved file bytes text verdict (Ok done) left is_due saves is = inl (
    is ∙ ap settled is_due,
    subst (λ (d : Effect). SameFiles (files_after (trait.file old) d) (trait.file new)) is_due (with_bytes-set (trait.file old) (trait.file between) (trait.file new) file bytes (lasts.same h) (saves.sets (lasts.honest h))),
  )
  keeps-saved file bytes text verdict (Err save.Failed) left is_due saves is = inr (inl (
    count-trans (trait.failure_count old) (trait.failure_count between) (trait.failure_count new) lasts.count saves.count (saves.failed refl),
    (same-trans (trait.file old) (trait.file between) (trait.file new) (lasts.same h) (saves.same (lasts.honest h)), inr (file, is)),
  ))
  keeps-saved file bytes text verdict (Err save.NoMemory) left is_due saves is = inr (inr (same-trans (trait.file old) (trait.file between) (trait.file new) (lasts.same h) (saves.same (lasts.honest h)), (file, is)))

  keeps-due : (effect left : Effect) → effect ≡ due → Settles trait between effect new left → Keeps trait due old new left
  keeps-due effect left is_due s = grind (arith, s, is_due, same-then, keeps-saved)

  -- an effect is what is due; or a call failed, counted; or memory ran out
  abbrev pub IsDue : Effect → Type 0
  IsDue effect = (effect ≡ due) ⊎ ((CountsFailure (trait.failure_count old) (trait.failure_count between) × ((file : List ℕ) × (effect ≡ Fails file error.FileNotRead))) ⊎ IsSpent effect)

  keeps-by : (effect left : Effect) → Settles trait between effect new left → IsDue effect → Keeps trait due old new left
  keeps-by effect left s (inl is) = keeps-due effect left is s
  keeps-by effect left s (inr (inl failed)) = keeps-unread effect left s (failed.0, ap (λ (e : Effect). is_unread (ending_of e)) failed.1.1)
  keeps-by effect left s (inr (inr spent)) = keeps-spent spent.0 left (subst (λ (e : Effect). Settles trait between e new left) spent.1 s)

-- the release of the files keeps what was done
keeps-left : {F : Type 0} (trait : Ghosts F) (due : Effect) (old done new : F) (left : Effect) → TurnsHold trait None done new → Keeps trait due old done left → Keeps trait due old new left
keeps-left trait due old done new left turns kept = grind (arith, kept, turns.same, turns.count, same-trans, count-more)

module _ {F O : Type 0} (trait : Ghosts F) (outcomes : Faults O) (line : Option ℕ) (due effect : Effect) (old mid new : F) (out out' : Watch) (err err' : ErrorWatch) (end : RunEnd) (f : Finishes trait line effect mid new out out' err err' end) where
  -- what was made of honest files was done with them
  pub finishes-keeps : (h : trait.is_honest old) (lasts : Lasts trait outcomes old mid) → IsDue trait outcomes due old mid f.done h lasts effect → Keeps trait due old new f.left
  finishes-keeps h lasts is = keeps-left trait due old f.done new f.left f.released (keeps-by trait outcomes due old mid f.done h lasts effect f.left f.settles is)

  settles-lasts : (effect : Effect) → Settles trait mid effect f.done f.left → (trait.is_honest mid → trait.is_honest f.done) × (trait.failure_count mid ≤ trait.failure_count f.done)
  settles-lasts effect s = grind (arith, s)

  -- honest files stay honest, and the count of failures never falls
  pub finishes-lasts : (trait.is_honest mid → trait.is_honest new) × (trait.failure_count mid ≤ trait.failure_count new)
  finishes-lasts =
      let first = settles-lasts effect f.settles in
      (λ h. f.released.honest (first.0 h), omega (arith, first.1, f.released.count))

-- ---- a file that was not read

unread-as : (name : List ℕ) (effect : Effect) (is : Bool) → is_unread (ending_of effect) ≡ is → IsTrue (is_unread (ending_of (if is then effect else Fails name error.FileNotRead)))
unread-as name effect is e = grind (arith, e)

-- the effect reports that the file was not read
if_unread-reports : (name : List ℕ) (plan : CommandPlan) → IsTrue (is_unread (ending_of (if_unread name plan)))
if_unread-reports name plan = grind (arith, unread-as)

effect_by-none : (plan : CommandPlan) → effect_by plan [] ≡ by faults plan []
effect_by-none (Ends effect) = refl
effect_by-none (Holds held name plan) = effect_by-none plan
effect_by-none (Loads name then_) = refl

module _ {F : Type 0} (trait : Ghosts F) where
  -- an effect is what `by` has; or a file was not read, counted, and the effect reports that
  abbrev IsBy : CommandPlan → List Answer → F → F → Type 0
  IsBy plan answers old new = (effect_by plan answers ≡ by faults plan answers) ⊎ (CountsFailure (trait.failure_count old) (trait.failure_count new) × IsTrue (is_unread (ending_of (effect_by plan answers))))

  later : (plan : CommandPlan) (answers : List Answer) (old between new : F) → Loaded trait plan between answers new → trait.failure_count old ≤ trait.failure_count between → IsBy plan answers between new → IsBy plan answers old new
  later plan answers old between new l le by =
      let lasts = loaded-lasts trait faults plan between answers new l in
      grind (arith, by, le, lasts.count, count-trans)

  is-by : (plan : CommandPlan) (old : F) (answers : List Answer) (new : F) → Loaded trait plan old answers new → IsBy plan answers old new
  is-by (Ends effect) old answers new l = inl refl
  is-by (Holds held name plan) old answers new (inl none) = inl (subst (λ (xs : List Answer). effect_by plan xs ≡ by faults plan xs) (sym none.0) (effect_by-none plan))
  is-by (Holds held name plan) old answers new (inr l) = later plan answers old l.0 new l.1.1 (loaded-lasts trait faults (Holds held name (Ends (Fails name error.NoMemory))) old [] l.0 (inr (l.0, (l.1.0, (refl, refl))))).count (is-by plan l.0 answers new l.1.1)
  is-by (Loads name then_) old [] new l = inl refl
  is-by (Loads name then_) old (Err load.Failed ∷ answers) new l = inr (
    count-more (trait.failure_count old) (trait.failure_count l.0) (trait.failure_count new) (loaded-lasts trait faults (then_ (Err load.Failed)) l.0 answers new l.1.1).count (l.1.0.failed refl),
    if_unread-reports name (then_ (Err load.Failed)),
  )
  is-by (Loads name then_) old (Err load.NoMemory ∷ answers) new l = inl refl
  is-by (Loads name then_) old (answer ∷ answers) new l = later (then_ answer) answers old l.0 new l.1.1 l.1.0.count (is-by (then_ answer) l.0 answers new l.1.1)

-- a command was made, and then finished
module _ {F R W E : Type 0} (trait : Ghosts F) (plan : Option ℕ → CommandPlan) (Fairly : List Answer → Type 0) (old new : World F R W E) (made : F) (effect : Effect) (end : RunEnd)
    (makes : MakesFairly trait old.files (plan (trait.mode made)) Fairly effect made) (f : Finishes trait None effect made new.files old.out new.out old.err new.err end) (input : new.input ≡ old.input) where
  lasts : Lasts trait faults old.files made
  lasts = loaded-lasts trait faults (plan (trait.mode made)) old.files makes.makes.answers made makes.makes.loads

  abbrev due : Effect
  due = follow (trait.file old.files) (plan (trait.mode made))

  -- over honest files a command makes what is due, or a call failed, or memory ran out
  is-due : (h : trait.is_honest old.files) → effect ≡ by faults (plan (trait.mode made)) makes.makes.answers → IsDue trait faults due old.files made f.done h lasts effect
  is-due h is =
      let outcome = comes trait faults (plan (trait.mode made)) (trait.file old.files) old.files makes.makes.answers made h (λ name. refl) makes.makes.loads in
      grind (arith, is, outcome)

  keeps : (h : trait.is_honest old.files) → Keeps trait due old.files new.files f.left
  keeps h =
      let finished = finishes-keeps trait faults None due effect old.files made new.files old.out new.out old.err new.err end f h lasts in
      elim makes.makes.made [
        | inl spent ↦ finished (inr (inr spent))
        | inr is ↦ elim (is-by trait (plan (trait.mode made)) old.files makes.makes.answers made makes.makes.loads) [
          | inl same ↦ finished (is-due h (is ∙ same))
          | inr unread ↦ keeps-left trait due old.files f.done new.files f.left f.released
              (keeps-unread trait faults due old.files made f.done h lasts effect f.left f.settles (unread.0, ap (λ (e : Effect). is_unread (ending_of e)) is ∙ unread.1))
        ]
      ]

  pub ends_finished : EndsCommand trait plan Fairly old new end
  ends_finished = record {
    effect = effect;
    made = made;
    makes = makes;
    finishes = f;
    input = input;
    honest = keeps;
    spared = λ spent h. same-trans (trait.file old.files) (trait.file f.done) (trait.file new.files)
        (same-trans (trait.file old.files) (trait.file made) (trait.file f.done) (lasts.same h) (settles-spared old.out new.out end.ending spent trait made f.done (lasts.honest h) effect f.left f.settles f.shown)) f.released.same;
    quiet = λ spent. quiet-end old.out new.out end.ending spent f.left f.shown;
  }
