-- What a run over all entries asked for does to the entries of its keytab, and its history.
use Rattle.krb_copy.proofs.Cited.{⊤, ◌≡◌, ℕ, Bool, true, false, List, [], ◌∷◌, ◌++◌, Some, Ok, refl, sym, ap, subst, ◌∙◌, append_assoc, map, ◌||◌, AllByRecursion, list_any, flat_map, append-nil, removed_line, EntryParts, PlacedEntry, placed_entries, KeytabState, entry_at_place, are_twins, are_same, Held, Run, Step, as_found, step_of, with_copy, run_after, go_on, run_over, run_start, copy_run, has_lines, Has, AreEntries, IsInPlace, HasEachAsked, SecondDoesNothing, OthersStay, ChangesAreReported, both_ways, recursion_from_All, IsEntry, all_join, any_of_map, cond, Result, arith, bytes_eq, Code, without, There, Copy, twins, step_among, SessionState, after, put_store, cuts_ran, AllStay, AreHistories, changes_of, changes_over, Rules}
use Rattle.krb_copy.proofs.Alike.{same_equiv}
use Rattle.krb_copy.proofs.Elsewhere.{all_mapped, any_entry, put_elsewhere}
use Rattle.krb_copy.proofs.RunSteps.{after_step, kept_over, over_all}
use Rattle.krb_copy.proofs.LawLemmas.{AreThere, IsHeld, start_there, copy_step, stays_after, copy_there, copy_held, all_held_after, held_there, there_held}
use Rattle.krb_walk.specs.declared.event.Event.{Event}
use Rattle.krb_walk.specs.declared.event.Event.TheVariants.{Put, Cut}
use Rattle.krb_walk.specs.History.{state_after}
use Rattle.krb_keytab.specs.Rewrite.{keytab_rules}

-- the entries without their places
abbrev pub bare : List PlacedEntry → List EntryParts
bare = map (λ x. x.1)

-- ---- what a run keeps

-- more lines are lines
has_more : (a : List ℕ) (b : ℕ) (rest : List ℕ) → has_lines (a ++ (b ∷ rest)) ≡ true
has_more [] b rest = refl
has_more (x ∷ a) b rest = refl

-- unless an entry clashed, all were met
pub all_before : (replace : Bool) (asked : List PlacedEntry) (run final : Run) → run_over replace asked run ≡ Ok final → has_lines final.clashes ≡ false → final.before ≡ run.before ++ bare asked
all_before replace = over_all replace (λ asked run final. has_lines final.clashes ≡ false → final.before ≡ run.before ++ bare asked)
    (λ run clean. sym (append-nil run.before)) (λ x xs run code refused clashed clean. absurd (both_ways _ clean clashed))
    (λ x xs run next final after rest clean. rest clean
    ∙ ap (λ (l : List EntryParts). l ++ bare xs) (after_step (λ s n. n.before ≡ run.before ++ x.1 ∷ []) run next x (step_of replace run.before run.held x.1) after refl (λ twin. refl) (λ places given put. refl)) ∙ append_assoc run.before (x.1 ∷ []) (bare xs))

-- its entries are in the keytab
pub are_there : (replace : Bool) (asked : List PlacedEntry) (run final : Run) → run_over replace asked run ≡ Ok final → AreEntries asked → AreThere run.keytab run.held → AreThere final.keytab final.held
are_there replace = kept_over replace (λ x. IsEntry x.1) (λ run. AreThere run.keytab run.held) (λ x run fits there e. there) (λ x run twin fits there e. there)
    (λ x run places given fits there e put. copy_there run.keytab run.held x.1 places given fits there (copy_step replace run.before run.held x.1 places e).places_are put)

-- what was asked for is held, unless an entry clashed
are_held : (replace : Bool) (asked : List PlacedEntry) (run final : Run) → run_over replace asked run ≡ Ok final → AreEntries asked → (has_lines run.clashes ≡ false → AllByRecursion (IsHeld run.held) run.before) → has_lines final.clashes ≡ false → AllByRecursion (IsHeld final.held) final.before
are_held replace = kept_over replace (λ x. IsEntry x.1) (λ run. has_lines run.clashes ≡ false → AllByRecursion (IsHeld run.held) run.before)
    (λ x run fits are e clean. all_join (IsHeld run.held) run.before (x.1 ∷ []) (are clean) (held_there replace run.before run.held x.1 e, tt))
    (λ x run twin fits are e clean. absurd (both_ways _ clean (has_more run.clashes _ _)))
    (λ x run places given fits are e put clean. all_join (IsHeld (with_copy run.held x.1 given.0)) run.before (x.1 ∷ [])
    (all_held_after x.1 run.held given.0 run.before (copy_step replace run.before run.held x.1 places e).none_stays (are clean)) (copy_held x.1 run.held given.0, tt))

-- ---- the laws

has_in : (b : Bool) (k : KeytabState) (a : EntryParts) (h : Held) (rest : Bool) → are_same a h.entry ≡ b → IsInPlace k h → (b || rest) ≡ true → (rest ≡ true → Has k a) → Has k a
has_in true k a h rest same there e ih = (h.place, there.0, there.1, same_equiv.congr a h.entry there.0 same ∙ there.2)
has_in false k a h rest same there e ih = ih e

has_held : (k : KeytabState) (held : List Held) (a : EntryParts) → AreThere k held → IsHeld held a → Has k a
has_held k [] a there is = absurd cc
has_held k (h ∷ hs) a there is = has_in (are_same a h.entry) k a h (list_any (λ g. are_same a g.entry) hs) refl there.0 is (has_held k hs a there.1)

all_has : (k : KeytabState) (held : List Held) (asked : List PlacedEntry) → AreThere k held → AllByRecursion (IsHeld held) (bare asked) → AllByRecursion (λ x. Has k x.1) asked
all_has k held [] there are = tt
all_has k held (x ∷ xs) there are = (has_held k held x.1 there are.0, all_has k held xs there are.1)

pub has_each : HasEachAsked
unfolding copy_run
has_each replace asked k run fits e clean =
    all_has run.keytab run.held asked (are_there replace asked (run_start k) run e fits (start_there k))
    (subst (AllByRecursion (IsHeld run.held)) (all_before replace asked (run_start k) run e clean) (are_held replace asked (run_start k) run e fits (λ c. tt) clean))

pub second_over : (again : Bool) (asked : List PlacedEntry) (run : Run) → AllByRecursion (λ x. IsHeld run.held x.1) asked → (second : Run) × (run_over again asked run ≡ Ok second) × (second.keytab ≡ run.keytab) × (second.text ≡ run.text) × ((has_lines second.clashes) ≡ (has_lines run.clashes))
second_over again [] run held = (run, refl, refl, refl, refl)
second_over again (x ∷ xs) run held =
    let r = second_over again xs (record run { before = run.before ++ x.1 ∷ [] }) held.1 in
    (r.0, ap (λ (s : Step). go_on (run_over again xs) run (run_after run x s)) (there_held again run.before run.held x.1 held.0) ∙ r.1, r.2, r.3, r.4)

pub second_does_nothing : SecondDoesNothing
unfolding copy_run
second_does_nothing replace again asked k run fits e clean = second_over again asked (run_start run.keytab)
    (all_mapped (λ x. Has run.keytab x.1) (λ x. IsHeld (map as_found (placed_entries run.keytab)) x.1) asked
    (λ x h. any_of_map (λ h. are_same x.1 h.entry) as_found (placed_entries run.keytab) ∙ any_entry run.keytab h.0 h.1 (λ y. are_same x.1 y.1) h.3 h.2) (has_each replace asked k run fits e clean))

-- each entry fits, and is no twin of another
others_fit : (e : EntryParts) (asked : List PlacedEntry) → AreEntries asked → AllByRecursion (λ x. are_twins x.1 e ≡ false) asked → AllByRecursion (λ x. IsEntry x.1 × (are_twins x.1 e ≡ false)) asked
others_fit e [] fits others = tt
others_fit e (x ∷ xs) fits others = ((fits.0, others.0), others_fit e xs fits.1 others.1)

pub others_stay : OthersStay
unfolding copy_run
others_stay replace asked k run fits ran place e read others =
    (kept_over replace (λ x. IsEntry x.1 × (are_twins x.1 e ≡ false)) (λ run. AreThere run.keytab run.held × (entry_at_place run.keytab place ≡ Some e)) (λ x run fits is e. is) (λ x run twin fits is e. is)
    (λ x run places given fits is step put. let are = (copy_step replace run.before run.held x.1 places step).places_are in
    (copy_there run.keytab run.held x.1 places given fits.0 is.0 are put, stays_after run.keytab run.held x.1 places given place e is.0 are put is.1 fits.1))
    asked (run_start k) run ran (others_fit e asked fits others) (start_there k, read)).1

-- ---- what is reported

-- of these entries, each is held
abbrev pub AreSilent : Run → Run → Type 0
AreSilent start run = run.text ≡ [] → (run.keytab ≡ start.keytab) × (has_lines run.clashes ≡ false) × (run.held ≡ start.held) × AllByRecursion (IsHeld start.held) run.before

pub silent : (replace : Bool) (asked : List PlacedEntry) (k : KeytabState) (final : Run) → run_over replace asked (run_start k) ≡ Ok final → AreSilent (run_start k) final
silent replace asked k final ran = kept_over replace (λ x. ⊤) (AreSilent (run_start k))
    (λ x run fits is e none. let s = is none in
    (s.0, s.1, s.2, all_join (IsHeld (run_start k).held) run.before (x.1 ∷ []) s.3 (subst (λ (held : List Held). IsHeld held x.1) s.2 (held_there replace run.before run.held x.1 e), tt)))
    (λ x run twin fits is e none. absurd (both_ways _ (ap has_lines none) (has_more run.text _ _)))
    (λ x run places given fits is e put none. absurd (both_ways _ (ap has_lines (append_assoc run.text (flat_map (λ p. removed_line (p, x.1)) places) _ ∙ none)) (has_more (run.text ++ flat_map (λ p. removed_line (p, x.1)) places) _ _)))
    asked (run_start k) final ran (recursion_from_All (λ x. ⊤) asked (λ i d lt. tt)) (λ none. (refl, refl, refl, tt))

pub changes_are_reported : ChangesAreReported
unfolding copy_run
changes_are_reported replace asked k run e none = (silent replace asked k run e none).0

-- ---- histories

-- a session over a keytab, without walks
abbrev session : KeytabState → SessionState KeytabState
session k = record { store = k; cursors = [] }

pub state_join : {S I : Type 0} (r : Rules S I) (s : SessionState S) (es fs : List (Event I)) → state_after r s (es ++ fs) ≡ state_after r (state_after r s es) fs
state_join r s [] fs = refl
state_join r s (e ∷ es) fs = state_join r (after r s e) es fs

-- events lead from one keytab to another
abbrev Lead : List (Event EntryParts) → KeytabState → KeytabState → Type 0
Lead events k new = state_after keytab_rules (session k) events ≡ session new

lead_on : (es fs : List (Event EntryParts)) (k mid new : KeytabState) → Lead es k mid → Lead fs mid new → Lead (es ++ fs) k new
lead_on es fs k mid new a b = state_join keytab_rules (session k) es fs ∙ ap (λ (s : SessionState KeytabState). state_after keytab_rules s fs) a ∙ b

step_leads : (run next : Run) (x : PlacedEntry) (s : Step) → run_after run x s ≡ Ok next → Lead (changes_of x.1 s) run.keytab next.keytab
step_leads run next x s e = after_step (λ s n. Lead (changes_of x.1 s) run.keytab n.keytab) run next x s e refl (λ twin. refl) (λ places given put.
    lead_on (map Cut places) (Put x.1 ∷ []) run.keytab (without run.keytab places) given.1 (sym (cuts_ran run.keytab places).state) (ap (λ (r : Result (ℕ × KeytabState) Code). session (put_store (without run.keytab places) r)) put))

leads_over : (replace : Bool) (asked : List PlacedEntry) (run final : Run) → run_over replace asked run ≡ Ok final → Lead (changes_over replace asked run) run.keytab final.keytab
leads_over replace = over_all replace (λ asked run final. Lead (changes_over replace asked run) run.keytab final.keytab) (λ run. refl) (λ x xs run code refused clashed. rw refused refl)
    (λ x xs run next final after rest. let s = step_of replace run.before run.held x.1 in
    rw after (lead_on (changes_of x.1 s) (changes_over replace xs next) run.keytab next.keytab final.keytab (step_leads run next x s after) rest))

pub are_histories : AreHistories
unfolding copy_run
are_histories replace asked k run e = ap (λ (s : SessionState KeytabState). s.store) (leads_over replace asked (run_start k) run e)

-- ---- without replacing

copy_none : (b : Bool) (before : List EntryParts) (ts : List Held) (places : List ℕ) → cond b There (step_among false before ts) ≡ Copy places → places ≡ []
copy_none b before ts places e = search arith

pub all_stay : AllStay
unfolding copy_run
all_stay asked k run ran q e = kept_over false (λ x. ⊤) (λ run. entry_at_place run.keytab q ≡ Some e) (λ x run fits read s. read) (λ x run twin fits read s. read)
    (λ x run places given fits read s put. put_elsewhere (without run.keytab places) x.1 given q e put
    (ap (λ (ps : List ℕ). entry_at_place (without run.keytab ps) q) (copy_none (list_any (λ h. bytes_eq x.1.key h.entry.key) (twins x.1 run.held)) run.before (twins x.1 run.held) places s) ∙ read))
    asked (run_start k) run ran (recursion_from_All (λ x. ⊤) asked (λ i d lt. tt))
