-- A run and its definition, entry by entry.
use Rattle.krb_copy.proofs.Cited.{◌≡◌, ℕ, ◌+◌, ◌<◌, Bool, true, false, cond, List, [], ◌∷◌, ◌++◌, length, drop, Result, Ok, Err, refl, sym, ap, subst, ◌∙◌, Code, PlacedEntry, KeytabState, put_result, without, Run, Copy, NewParts, asked_as, step_of, with_copy, run_after, run_added, has_lines, run_over, go_on, AreClasses, AreNames, get_or, drop_more, copied_lines, IsRefusal, IsRun, Meets, Ends, end_at, PutGives, Copying, both_ways}
use Rattle.krb_walk.specs.declared.refusal.Refusal.{Refusal}
use Rattle.krb_walk.specs.declared.refusal.Refusal.TheVariants.{Code as ByCode, NoMemory}

-- an addition that is refused
pub refusal_is : (due given : Result (ℕ × KeytabState) Code) (old new : List ℕ) (k k' : KeytabState) (refusal : Refusal) → due ≡ given → new ≡ old → PutGives given k (Err refusal) k' → IsRefusal due old new refusal
refusal_is due given old new k k' (ByCode code) same untold gives = (same ∙ gives.0, untold)
refusal_is due given old new k k' NoMemory same untold gives = tt

-- an entry that is copied
pub copied_run : {A : Type 0} (run : Run) (x : PlacedEntry) (asked : List PlacedEntry) (replace : Bool) (places : List ℕ) (place : ℕ) (old : KeytabState) (new : Copying A) → old ≡ run.keytab
    → Copy places ≡ step_of replace run.before run.held x.1 → put_result (without old places) x.1 ≡ Ok (place, new.making.keytab.state) → new.making.text.items ≡ run.text ++ copied_lines x.1 places place → new.making.clashes.items ≡ run.clashes → new.making.places.items ≡ run.places ++ place ∷ []
    → AreClasses (run.before ++ x.1 ∷ []) (with_copy run.held x.1 place) new.classes → AreNames asked new.names
    → (next : Run) × (run_after run x (step_of replace run.before run.held x.1) ≡ Ok next) × IsRun next asked new
copied_run run x asked replace places place old new keytab step added text clash to classes names = (
  record { keytab = new.making.keytab.state; held = with_copy run.held x.1 place; before = run.before ++ x.1 ∷ []; text = run.text ++ copied_lines x.1 places place; clashes = run.clashes; places = run.places ++ place ∷ [] },
  ap (run_after run x) (sym step) ∙ ap (run_added run x.1 places) (ap (λ (k : KeytabState). put_result (without k places) x.1) (sym keytab) ∙ added),
  record { keytab = refl; text = text; clashes = clash; places = to; classes = classes; names = names },
)

-- an entry whose addition is refused
pub refused_run : {A : Type 0} (run : Run) (x : PlacedEntry) (asked : List PlacedEntry) (replace : Bool) (places : List ℕ) (old : KeytabState) (text : List ℕ) (refusal : Refusal) (new : Copying A) → old ≡ run.keytab → text ≡ run.text
    → Copy places ≡ step_of replace run.before run.held x.1 → IsRefusal (put_result (without old places) x.1) text new.making.text.items refusal → new.making.clashes.items ≡ run.clashes
    → Meets run asked (run_after run x (step_of replace run.before run.held x.1)) (Err refusal) new
refused_run run x asked replace places old text (ByCode code) new keytab same step refused clash =
    (ap (run_after run x) (sym step) ∙ ap (run_added run x.1 places) (ap (λ (k : KeytabState). put_result (without k places) x.1) (sym keytab) ∙ refused.0), refused.1 ∙ same, clash)
refused_run run x asked replace places old text NoMemory new keytab same step refused clash = tt

-- ---- all entries

-- where a run is on its way over the entries that are left, and what they come to
pub record IsOnTheWay {A : Type 0} (due : Result Run Code) (replace : Bool) (rest : List PlacedEntry) (copying : Copying A) : Type 0 where
  pub now : Run
  pub is_run : IsRun now rest copying
  pub same : run_over replace rest now ≡ due
  pub replace_is : copying.replace ≡ replace

-- one entry further
pub one_met : {A : Type 0} (due : Result Run Code) (replace : Bool) (x : PlacedEntry) (rest : List PlacedEntry) (old new : Copying A) → (w : IsOnTheWay due replace (x ∷ rest) old)
    → Meets w.now rest (run_after w.now x (step_of old.replace w.now.before w.now.held x.1)) (Ok tt) new → new.replace ≡ old.replace → IsOnTheWay due replace rest new
one_met due replace x rest old new w meets replaces = record {
  now = meets.0;
  is_run = meets.2;
  same = ap (go_on (run_over replace rest) w.now) (sym meets.1 ∙ ap (λ (b : Bool). run_after w.now x (step_of b w.now.before w.now.held x.1)) w.replace_is) ∙ w.same;
  replace_is = replaces ∙ w.replace_is;
}

-- all were met
pub all_met : {A : Type 0} (due : Result Run Code) (replace : Bool) (copying : Copying A) → IsOnTheWay due replace [] copying → Ends due (Ok tt) copying
all_met due replace copying w = record { run = w.now; is_due = sym w.same; text_is = w.is_run.text; clashes_are = w.is_run.clashes; places_are = λ _. w.is_run.places; keytab_is = λ _. w.is_run.keytab }

ended_by : {A : Type 0} (due : Result Run Code) (now : Run) (code : Code) (b : Bool) (new : Copying A) → has_lines new.making.clashes.items ≡ b → cond (has_lines now.clashes) (Ok now) (Err code) ≡ due → new.making.text.items ≡ now.text → new.making.clashes.items ≡ now.clashes
    → Ends due (end_at b (ByCode code)) new
ended_by due now code true new is same text clash =
    let clashed = sym (ap has_lines clash) ∙ is in
    record {
      run = now;
      is_due = sym same ∙ ap (λ (b : Bool). cond b (Ok now) (Err code)) clashed;
      text_is = text;
      clashes_are = clash;
      places_are = λ f. absurd (both_ways _ f clashed);
      keytab_is = λ f. absurd (both_ways _ f clashed);
    }
ended_by due now code false new is same text clash = sym same ∙ ap (λ (b : Bool). cond b (Ok now) (Err code)) (sym (ap has_lines clash) ∙ is)

-- a refusal
pub ended : {A : Type 0} (due : Result Run Code) (replace : Bool) (x : PlacedEntry) (rest : List PlacedEntry) (old new : Copying A) (refusal : Refusal) → (w : IsOnTheWay due replace (x ∷ rest) old)
    → Meets w.now rest (run_after w.now x (step_of old.replace w.now.before w.now.held x.1)) (Err refusal) new → Ends due (end_at (has_lines new.making.clashes.items) refusal) new
ended due replace x rest old new (ByCode code) w meets =
    let same : cond (has_lines w.now.clashes) (Ok w.now) (Err code) ≡ due = ap (go_on (run_over replace rest) w.now) (sym meets.0 ∙ ap (λ (b : Bool). run_after w.now x (step_of b w.now.before w.now.held x.1)) w.replace_is) ∙ w.same in
    ended_by due w.now code (has_lines new.making.clashes.items) new refl same meets.1 meets.2
ended due replace x rest old new NoMemory w meets = tt

-- the entry that is met is the first of those that are left
pub first_left : {A : Type 0} (due : Result Run Code) (replace : Bool) (new : NewParts) (asked : List PlacedEntry) (i : ℕ) (x : PlacedEntry) (copying : Copying A) → i < length asked → x ≡ get_or asked i x
    → IsOnTheWay due replace (asked_as new (drop i asked)) copying → IsOnTheWay due replace (asked_as new (x ∷ drop (i + 1) asked)) copying
first_left due replace new asked i x copying lt here w = subst (λ (ys : List PlacedEntry). IsOnTheWay due replace (asked_as new ys) copying) (drop_more asked i x lt ∙ ap (λ (y : PlacedEntry). y ∷ drop (i + 1) asked) (sym here)) w
