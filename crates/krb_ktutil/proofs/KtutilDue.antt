-- What a line of ktutil leaves, and that it is handled as is due over honest files.
use Rattle.krb_ktutil.proofs.Cited.{RunEnd, ◌≡◌, inl, inr, ℕ, Bool, true, false, List, [], ◌∷◌, length, refl, sym, arith, Result, Ghosts, Ends, LineFault, Effect, Awaited, words, Awaiting, KtutilState, Came, line_faults, plan_of, Answer, Holds, Loads, by, follow, is_other_type, Command, ReadFile, WriteFile, command_of, LinePlan, command_plan, plan_by, words_plan, MakesLine, Spares, cond_both, ComesDue, HandlesLine, HandlesNext, goes_on, ◌&&◌, not, Lasts, Some, Talk, comes, max, loaded-lasts, Keytab, finishes-keeps, finishes-lasts, Finishes}

-- ---- what lines leave

-- what a plan comes to spares the list where it has to
abbrev Careful : KtutilState → Came → Type 0
Careful s came = Spares s came.state came.effect

abbrev AllCareful : KtutilState → LinePlan → Type 0
AllCareful s (Ends came) = Careful s came
AllCareful s (Holds held name plan) = AllCareful s plan
AllCareful s (Loads name then_) = (answer : Answer) → AllCareful s (then_ answer)

module _ (s : KtutilState) (number : ℕ) where
  command-careful : (command : Command) → AllCareful s (command_plan s number command)
  command-careful (ReadFile word) = cond_both (is_other_type Keytab word) _ _ (AllCareful s) (λ _. (refl, λ is. refl)) (λ _ answer. grind arith)
  command-careful (WriteFile word) = grind arith
  command-careful command = refl

  words-careful : (line : List (List ℕ)) (given : Result Command LineFault) → AllCareful s (words_plan s number line given)
  words-careful line given = grind (arith, command-careful)

  plan-careful : (now : ℕ) (line : List ℕ) (awaiting : Awaiting Awaited) → AllCareful s (plan_by s now number line awaiting)
  plan-careful now line awaiting = grind (arith, words-careful (words line) (command_of line (length s.entries)))

  by-careful : (plan : LinePlan) (answers : List Answer) → AllCareful s plan → Careful s (by (line_faults s) plan answers)
  by-careful (Ends came) answers careful = careful
  by-careful (Holds held name plan) answers careful = by-careful plan answers careful
  by-careful (Loads name then_) [] careful = (refl, λ is. refl)
  by-careful (Loads name then_) (answer ∷ answers) careful = grind (arith, by-careful (then_ answer) answers (careful answer))

-- ---- a line that was made by its plan

-- it spares the list where it has to
pub makes_spares : {F : Type 0} (trait : Ghosts F) (old new : KtutilState) (files made : F) (effect : Effect) (quits : Bool) (now number : ℕ) (line : List ℕ) → MakesLine trait (plan_of old now number line) files made old new effect quits → Spares old new effect
makes_spares trait old new files made effect quits now number line m =
    let careful = by-careful old number (plan_of old now number line) m.answers (plan-careful old number now line old.awaiting) in
    grind (arith, m.made, m.is, careful)

-- ---- a line that was made, and then finished

module _ {F : Type 0} (trait : Ghosts F) (now number : ℕ) (line : List ℕ) (old new : Talk F) (made : F) (effect : Effect) (quits : Bool) (m : MakesLine trait (plan_of old.state now number line) old.files made old.state new.state effect quits)
    (end : RunEnd) (f : Finishes trait (Some number) effect made new.files old.out new.out old.err new.err end) where
  abbrev due : Came
  due = follow (trait.file old.files) (plan_of old.state now number line)

  made-lasts : Lasts trait (line_faults old.state) old.files made
  made-lasts = loaded-lasts trait (line_faults old.state) (plan_of old.state now number line) old.files m.answers made m.loads

  -- what was made of honest files is what is due
  made-due : trait.is_honest old.files → ComesDue trait due old.files made new.state effect quits
  made-due h =
      let outcome = comes trait (line_faults old.state) (plan_of old.state now number line) (trait.file old.files) old.files m.answers made h (λ name. refl) m.loads in
      grind (arith, m.made, m.is, outcome)

  abbrev handled : Spares old.state new.state effect → new.status ≡ max old.status end.status → HandlesLine trait now number line old new
  handled spares worst =
      let rest = finishes-lasts trait (line_faults old.state) (Some number) effect effect old.files made new.files old.out new.out old.err new.err end f in
      record {
        effect = effect;
        quits = quits;
        made = made;
        makes = m;
        spares = spares;
        end = end;
        finishes = f;
        worst = worst;
        lasts = (λ h. rest.0 (made-lasts.honest h), omega (arith, made-lasts.count, rest.1));
        due = made-due;
        honest = λ h. finishes-keeps trait (line_faults old.state) (Some number) due.effect effect old.files made new.files old.out new.out old.err new.err end f h made-lasts (elim (made-due h) [ inl is ↦ inl is.effect_is | inr other ↦ inr other ]);
      }

  -- the line was handled, and its end and the output decide whether another may come
  pub handles : Spares old.state new.state effect → new.status ≡ max old.status end.status → (goes failed : Bool) → goes ≡ goes_on quits end.ending → failed ≡ new.out.failed → HandlesNext trait now number line old new (goes && not failed)
  handles spares worst true true goes is = (handled spares worst, inr (sym is))
  handles spares worst true false goes is = (handled spares worst, sym goes, sym is)
  handles spares worst false failed goes is = (handled spares worst, inl (sym goes))
