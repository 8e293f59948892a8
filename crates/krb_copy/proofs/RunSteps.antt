-- A run over entries asked for, step by step.
use Rattle.krb_copy.proofs.Cited.{◌≡◌, ℕ, Bool, true, false, cond, List, [], ◌∷◌, ◌++◌, Result, Ok, Err, refl, subst, AllByRecursion, Code, PlacedEntry, KeytabState, put_result, without, Run, Step, There, Clash, Copy, step_of, with_copy, clash_line, copied_lines, run_added, run_after, go_on, run_over, has_lines}

-- ---- one step

-- the run after an entry that is there
abbrev pub run_there : Run → PlacedEntry → Run
run_there run x = record run { before = run.before ++ x.1 ∷ [] }

-- after one that clashes
abbrev pub run_clash : Run → PlacedEntry → ℕ → Run
run_clash run x twin = record run { before = run.before ++ x.1 ∷ []; text = run.text ++ clash_line x twin; clashes = run.clashes ++ clash_line x twin }

-- after one that is copied
abbrev pub run_copied : Run → PlacedEntry → List ℕ → ℕ × KeytabState → Run
run_copied run x places given = record {
  keytab = given.1;
  held = with_copy run.held x.1 given.0;
  before = run.before ++ x.1 ∷ [];
  text = run.text ++ copied_lines x.1 places given.0;
  clashes = run.clashes;
  places = run.places ++ given.0 ∷ [];
}

-- what holds after each step holds after one
pub after_step : (P : Step → Run → Type 0) (run next : Run) (x : PlacedEntry) (s : Step) → run_after run x s ≡ Ok next → P There (run_there run x) → ((twin : ℕ) → P (Clash twin) (run_clash run x twin))
    → ((places : List ℕ) (given : ℕ × KeytabState) → put_result (without run.keytab places) x.1 ≡ Ok given → P (Copy places) (run_copied run x places given)) → P s next
after_step P run next x There e there clash copy = let same : run_there run x ≡ next = cc in subst (P There) same there
after_step P run next x (Clash twin) e there clash copy = let same : run_clash run x twin ≡ next = cc in subst (P (Clash twin)) same (clash twin)
after_step P run next x (Copy places) e there clash copy = by (put_result (without run.keytab places) x.1) refl e
  where
    by : (r : Result (ℕ × KeytabState) Code) → put_result (without run.keytab places) x.1 ≡ r → run_added run x.1 places r ≡ Ok next → P (Copy places) next
    by (Err code) put e = absurd cc
    by (Ok given) put e = let same : run_copied run x places given ≡ next = cc in subst (P (Copy places)) same (copy places given put)

-- ---- all steps

-- what holds of no entry, of a refusal that ends a run, and of a step and those after it, holds of a run
module _ (replace : Bool) (P : List PlacedEntry → Run → Run → Type 0) (none : (run : Run) → P [] run run)
    (stop : (x : PlacedEntry) (xs : List PlacedEntry) (run : Run) (code : Code) → run_after run x (step_of replace run.before run.held x.1) ≡ Err code → has_lines run.clashes ≡ true → P (x ∷ xs) run run)
    (step : (x : PlacedEntry) (xs : List PlacedEntry) (run next final : Run) → run_after run x (step_of replace run.before run.held x.1) ≡ Ok next → P xs next final → P (x ∷ xs) run final) where
  stopped : (b : Bool) (x : PlacedEntry) (xs : List PlacedEntry) (run final : Run) (code : Code) → run_after run x (step_of replace run.before run.held x.1) ≡ Err code → has_lines run.clashes ≡ b → cond b (Ok run) (Err code) ≡ Ok final → P (x ∷ xs) run final
  stopped true x xs run final code refused clashed e = let same : run ≡ final = cc in subst (P (x ∷ xs) run) same (stop x xs run code refused clashed)
  stopped false x xs run final code refused clashed e = absurd cc

  pub over_all : (asked : List PlacedEntry) (run final : Run) → run_over replace asked run ≡ Ok final → P asked run final
  over_all [] run final e = let same : run ≡ final = cc in subst (P [] run) same (none run)
  over_all (x ∷ xs) run final e = by (run_after run x (step_of replace run.before run.held x.1)) refl e (over_all xs)
    where
      by : (r : Result Run Code) → run_after run x (step_of replace run.before run.held x.1) ≡ r → go_on (run_over replace xs) run r ≡ Ok final
          → ((next final : Run) → run_over replace xs next ≡ Ok final → P xs next final) → P (x ∷ xs) run final
      by (Ok next) after e rest = step x xs run next final after (rest next final e)
      by (Err code) refused e rest = stopped (has_lines run.clashes) x xs run final code refused refl e

-- what each step keeps, if it may ask something of its entry, a run keeps
module _ (replace : Bool) (Fits : PlacedEntry → Type 0) (P : Run → Type 0)
    (there : (x : PlacedEntry) (run : Run) → Fits x → P run → step_of replace run.before run.held x.1 ≡ There → P (run_there run x))
    (clash : (x : PlacedEntry) (run : Run) (twin : ℕ) → Fits x → P run → step_of replace run.before run.held x.1 ≡ Clash twin → P (run_clash run x twin))
    (copy : (x : PlacedEntry) (run : Run) (places : List ℕ) (given : ℕ × KeytabState) → Fits x → P run → step_of replace run.before run.held x.1 ≡ Copy places → put_result (without run.keytab places) x.1 ≡ Ok given → P (run_copied run x places given)) where
  pub kept_over : (asked : List PlacedEntry) (run final : Run) → run_over replace asked run ≡ Ok final → AllByRecursion Fits asked → P run → P final
  kept_over = over_all replace (λ asked run final. AllByRecursion Fits asked → P run → P final) (λ run fits p. p) (λ x xs run code refused clashed fits p. p)
      (λ x xs run next final after rest fits p. rest fits.1
      (after_step (λ s n. step_of replace run.before run.held x.1 ≡ s → P n) run next x (step_of replace run.before run.held x.1) after
      (λ e. there x run fits.0 p e) (λ twin e. clash x run twin fits.0 p e) (λ places given put e. copy x run places given fits.0 p e put) refl))
