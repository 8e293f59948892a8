-- The outcomes of plans over honest files.
use Rattle.krb_files.proofs.Cited.{◌≡◌, ◌⊎◌, inl, inr, ◌∙◌, ℕ, ◌≤◌, Bool, true, false, List, [], ◌∷◌, Option, None, Some, refl, sym, ap, subst, arith, Err, FileMap, SameFiles, SetsFile, CountsFailure, loaded, bytes_eq-Decides}
use Rattle.krb_files.specs.declared.files.LoadFault.TheVariants as load
use Rattle.krb_files.specs.declared.files.Files.{Ghosts}
use Rattle.krb_files.specs.Loading.{Answer, LoadsFile, TurnsHold, most_bytes}
use Rattle.krb_files.specs.Plan.{Plan, Ends, Holds, Loads, Faults, HeldIf, Leaves, by, Loaded, follow, with_bytes}

-- ---- files, and counts of failures

pub same-trans : (first second third : FileMap) → SameFiles first second → SameFiles second third → SameFiles first third
same-trans first second third same then_ name = then_ name ∙ same name

-- the files after a save are `with_bytes` of those before
pub with_bytes-set : (before files files' : FileMap) (name bytes : List ℕ) → SameFiles before files → SetsFile files name bytes files' → SameFiles (with_bytes before name bytes) files'
with_bytes-set before files files' name bytes same sets other =
    let is = bytes_eq-Decides other name in
    let was = same other in
    let this = sets.this in
    let others = sets.others other in
    grind arith

-- a failure counted in the second of two steps is counted in both
pub count-trans : (a b c : ℕ) → a ≤ b → b ≤ c → CountsFailure b c → CountsFailure a c
count-trans a b c le le' counted = grind arith

-- and so is one that is counted in the first
pub count-more : (a b c : ℕ) → b ≤ c → CountsFailure a b → CountsFailure a c
count-more a b c le counted = grind arith

module _ {F R : Type 0} (trait : Ghosts F) (faults : Faults R) where
  -- loads keep honest files honest and unchanged, and never lower the count of failures
  pub record Lasts (old new : F) : Type 0 where
    pub honest : trait.is_honest old → trait.is_honest new
    pub same : trait.is_honest old → SameFiles (trait.file old) (trait.file new)
    pub count : trait.failure_count old ≤ trait.failure_count new

  lasts-none : (old new : F) → new ≡ old → Lasts old new
  lasts-none old new is = subst (λ (x : F). Lasts old x) (sym is) (record { honest = λ h. h; same = λ h name. refl; count = omega arith })

  pub lasts-trans : (old between new : F) → Lasts old between → Lasts between new → Lasts old new
  lasts-trans old between new first rest =
      let le = first.count in
      let le' = rest.count in
      record {
        honest = λ h. rest.honest (first.honest h);
        same = λ h. same-trans (trait.file old) (trait.file between) (trait.file new) (first.same h) (rest.same (first.honest h));
        count = omega (arith, le, le');
      }

  -- so do taking and ending a hold
  pub turn-lasts : (held : Option (List ℕ)) (old new : F) → TurnsHold trait held old new → Lasts old new
  turn-lasts held old new turns =
      let is = turns.count in
      record { honest = turns.honest; same = λ h. turns.same; count = omega (arith, is) }

  held-lasts : (held : Bool) (name : List ℕ) (old new : F) → HeldIf trait held name old new → Lasts old new
  held-lasts true name old new turns = turn-lasts (Some name) old new turns
  held-lasts false name old new is = lasts-none old new is

  pub leaves-lasts : (plan : Plan R) (old new : F) → Leaves trait plan old new → Lasts old new
  leaves-lasts (Holds true name plan) old new turns = turn-lasts None old new turns
  leaves-lasts _ old new is = lasts-none old new is

  pub loaded-lasts : (plan : Plan R) (old : F) (answers : List Answer) (new : F) → Loaded trait plan old answers new → Lasts old new
  loaded-lasts (Ends r) old answers new l = lasts-none old new l.1
  loaded-lasts (Holds held name plan) old answers new (inl none) = lasts-none old new none.1
  loaded-lasts (Holds held name plan) old answers new (inr l) = lasts-trans old l.0 new (held-lasts held name old l.0 l.1.0) (loaded-lasts plan l.0 answers new l.1.1)
  loaded-lasts (Loads name then_) old [] new l = lasts-none old new l
  loaded-lasts (Loads name then_) old (answer ∷ answers) new l =
      let first = l.1.0 in
      lasts-trans old l.0 new (record { honest = first.honest; same = first.same; count = first.count }) (loaded-lasts (then_ answer) l.0 answers new l.1.1)

  -- no load was done yet
  pub loaded-none : (plan : Plan R) (old : F) → Loaded trait plan old [] old
  loaded-none (Ends r) old = (refl, refl)
  loaded-none (Holds held name plan) old = inl (refl, refl)
  loaded-none (Loads name then_) old = refl

  -- ---- honest files

  -- the outcome is what is due; or a call failed, which was counted; or memory ran out
  abbrev pub Comes : R → F → F → R → Type 0
  Comes due old new came =
      (came ≡ due)
      ⊎ ((CountsFailure (trait.failure_count old) (trait.failure_count new) × ((name : List ℕ) × (came ≡ faults.unread name)))
      ⊎ ((name : List ℕ) × (came ≡ faults.spent name)))

  -- the result of a load that does not fail does not end a plan
  by-loaded : (name : List ℕ) (then_ : Answer → Plan R) (answers : List Answer) (x : Option (List ℕ)) → by faults (Loads name then_) (loaded x most_bytes ∷ answers) ≡ by faults (then_ (loaded x most_bytes)) answers
  by-loaded name then_ answers None = refl
  by-loaded name then_ answers (Some bytes) = grind arith

  comes-later : (due came : R) (old between new : F) → trait.failure_count old ≤ trait.failure_count between → trait.failure_count between ≤ trait.failure_count new → Comes due between new came → Comes due old new came
  comes-later due came old between new le le' comes = grind (arith, count-trans)

  comes-loaded : (name : List ℕ) (then_ : Answer → Plan R) (before : FileMap) (old between new : F) (answer : Answer) (answers : List Answer) → trait.is_honest old → SameFiles before (trait.file old)
      → LoadsFile trait old name answer between → Loaded trait (then_ answer) between answers new
      → (Loaded trait (then_ (loaded (before name) most_bytes)) between answers new → Comes (follow before (then_ (loaded (before name) most_bytes))) between new (by faults (then_ (loaded (before name) most_bytes)) answers))
      → (answer ≡ Err load.Failed) ⊎ (answer ≡ Err load.NoMemory) ⊎ (answer ≡ loaded (trait.file old name) most_bytes)
      → Comes (follow before (Loads name then_)) old new (by faults (Loads name then_) (answer ∷ answers))
  comes-loaded name then_ before old between new answer answers h same loads l next (inl failed) =
      let later = (loaded-lasts (then_ answer) between answers new l).count in
      let counted = loads.failed failed in
      let is = ap (λ (a : Answer). by faults (Loads name then_) (a ∷ answers)) failed in
      inr (inl (count-more _ _ _ later counted, (name, is)))
  comes-loaded name then_ before old between new answer answers h same loads l next (inr (inl spent)) = inr (inr (name, ap (λ (a : Answer). by faults (Loads name then_) (a ∷ answers)) spent))
  comes-loaded name then_ before old between new answer answers h same loads l next (inr (inr is_what_is_there)) =
      let is : answer ≡ loaded (before name) most_bytes = is_what_is_there ∙ ap (λ (x : Option (List ℕ)). loaded x most_bytes) (same name) in
      let due = follow before (Loads name then_) in
      comes-later due (by faults (Loads name then_) (answer ∷ answers)) old between new loads.count (loaded-lasts (then_ answer) between answers new l).count
      (subst (λ (r : R). Comes due between new r) (sym (ap (λ (a : Answer). by faults (Loads name then_) (a ∷ answers)) is ∙ by-loaded name then_ answers (before name)))
      (next (subst (λ (a : Answer). Loaded trait (then_ a) between answers new) is l)))

  -- without a load a plan reaches its end, or memory ran out
  comes-none : (plan : Plan R) (before : FileMap) (old new : F) → Comes (follow before plan) old new (by faults plan [])
  comes-none (Ends r) before old new = inl refl
  comes-none (Holds held name plan) before old new = comes-none plan before old new
  comes-none (Loads name then_) before old new = inr (inr (name, refl))

  -- the law: over honest files the outcome of a plan is what is due, or a call failed, or memory ran out
  pub comes : (plan : Plan R) (before : FileMap) (old : F) (answers : List Answer) (new : F) → trait.is_honest old → SameFiles before (trait.file old) → Loaded trait plan old answers new
      → Comes (follow before plan) old new (by faults plan answers)
  comes (Ends r) before old answers new h same l = inl refl
  comes (Holds held name plan) before old answers new h same (inl none) = subst (λ (xs : List Answer). Comes (follow before plan) old new (by faults plan xs)) (sym none.0) (comes-none plan before old new)
  comes (Holds held name plan) before old answers new h same (inr l) =
      let first = held-lasts held name old l.0 l.1.0 in
      comes-later (follow before plan) (by faults plan answers) old l.0 new first.count (loaded-lasts plan l.0 answers new l.1.1).count
      (comes plan before l.0 answers new (first.honest h) (same-trans before (trait.file old) (trait.file l.0) same (first.same h)) l.1.1)
  comes (Loads name then_) before old [] new h same l = inr (inr (name, refl))
  comes (Loads name then_) before old (answer ∷ answers) new h same l =
      let loads = l.1.0 in
      comes-loaded name then_ before old l.0 new answer answers h same loads l.1.1
      (comes (then_ (loaded (before name) most_bytes)) before l.0 answers new (loads.honest h) (same-trans before (trait.file old) (trait.file l.0) same (loads.same h)))
      (loads.is_what_is_there h)
