-- Over a store with a fault, the steps of a walk give the records from its cursor on, and then the fault.
use Rattle.krb_walk.proofs.Cited.{◌≡◌, ℕ, zero, suc, ◌≤◌, Bool, true, false, cond, List, [], ◌∷◌, ◌++◌, length, map, take, replicate, Option, Some, None, inl, inr, refl, sym, ap, ◌∙◌, subst, arith, filter, AllByRecursion, option_to_list, FaultKind, Store, Record, end_of, IsSound, next_live, Changes, ReplyContent, Faulted, is_step_reply, completes, is_gave, is_rewritten, stop_cursor, stop_reply, RecordName, WalkEvent, Track, IsTrack, records_from, nat_tests, GiveToFault, as_walk, gave, step_replies}
use Rattle.krb_walk.proofs.Stops.{stops_give_records, stops_end}
use Rattle.krb_walk.proofs.WalkEvents.{end_of_step, effect_of, carry_by-same}
use Rattle.krb_walk.proofs.Counts.{none_at_end}
use Rattle.krb_walk.proofs.Comes.{track_rest}

-- the records from a place on are the next one, and those from where a step leads
pub records_next : (s : Store) (c : ℕ) (found : Option Record) → IsSound s → next_live s c ≡ found → records_from s c ≡ option_to_list found ++ records_from s (stop_cursor (end_of s) found)
records_next s c found sound is = search (arith, stops_end, none_at_end, stops_give_records)

-- the replies to the steps of a walk over a store with a fault
abbrev pub damaged_replies : Store → ℕ → ℕ → ℕ → FaultKind → List ReplyContent
damaged_replies s w c m kind = map (gave w) (records_from s c) ++ replicate m (Faulted w (record { place = end_of s; kind = kind }))

damaged_step : (s : Store) (w c m k : ℕ) (kind : FaultKind) (found : Option Record) (rest : List ReplyContent) → s.fault ≡ Some kind → next_live s c ≡ found → records_from s c ≡ option_to_list found ++ records_from s (stop_cursor (end_of s) found)
    → (found ≡ None → records_from s (end_of s) ≡ []) → suc k ≤ m → ((j : ℕ) → k ≤ j → rest ≡ take k (damaged_replies s w (stop_cursor (end_of s) found) j kind)) → stop_reply s w found ∷ rest ≡ take (suc k) (damaged_replies s w c m kind)
damaged_step s w c zero k kind found rest fault is from empty le ih = absurd (omega arith)
damaged_step s w c (suc m) k kind None rest fault is from empty le ih = search (arith)
damaged_step s w c (suc m) k kind (Some r) rest fault is from empty le ih =
    ap (λ (l : List ReplyContent). gave w r ∷ l) (ih (suc m) (omega arith)) ∙ sym (ap (λ (rs : List Record). take (suc k) (map (gave w) rs ++ replicate (suc m) (Faulted w (record { place = end_of s; kind = kind })))) from)

abbrev pub RepliesBy : List ReplyContent → Store → ℕ → ℕ → ℕ → FaultKind → Type 0
RepliesBy content s w c m kind = length content ≤ m → content ≡ take (length content) (damaged_replies s w c m kind)

-- a store with a fault is unchanged, and is not rewritten
fault_stays : (content : ReplyContent) (old new : Store) (kind : FaultKind) → old.fault ≡ Some kind → Changes content old new → new ≡ old
fault_stays content old new kind fault h = search arith

fault_plain : (content : ReplyContent) (old new : Store) (kind : FaultKind) → old.fault ≡ Some kind → Changes content old new → is_rewritten content ≡ false
fault_plain content old new kind fault h = search arith

replies_idle : (w : ℕ) (x : WalkEvent) (xs : Track) → x.stepped ≡ false → step_replies w (x ∷ xs) ≡ step_replies w xs
replies_idle w x xs e = ap (λ (b : Bool). map (λ y. as_walk w y.reply) (cond {A = Track} b (x ∷ filter (λ y. y.stepped) xs) (filter (λ y. y.stepped) xs))) e

replies_step : (w : ℕ) (x : WalkEvent) (xs : Track) → x.stepped ≡ true → step_replies w (x ∷ xs) ≡ as_walk w x.reply ∷ step_replies w xs
replies_step w x xs e = ap (λ (b : Bool). map (λ y. as_walk w y.reply) (cond {A = Track} b (x ∷ filter (λ y. y.stepped) xs) (filter (λ y. y.stepped) xs))) e

faulted_replies : (w n : ℕ) (s : Store) (names : List RecordName) (c : Option ℕ) (t : Track) (last : Store) (d m : ℕ) (kind : FaultKind) → s.fault ≡ Some kind → IsTrack n s names c t last → c ≡ Some d → RepliesBy (step_replies w t) s w d m kind
faulted_replies w n s names c [] last d m kind fault h at = λ le. refl
faulted_replies w n s names c (x ∷ xs) last d m kind fault h at =
    let fault_x : x.before.fault ≡ Some kind = ap (λ (z : Store). z.fault) h.0.before ∙ fault in
    let stays = fault_stays x.reply x.before x.after kind fault_x h.0.changes in
    let plain = fault_plain x.reply x.before x.after kind fault_x h.0.changes in
    let same_store : x.after ≡ s = stays ∙ h.0.before in
    let fault_on : x.after.fault ≡ Some kind = ap (λ (z : Store). z.fault) same_store ∙ fault in
    elim (effect_of x h.0.effect) [
      | inl holds ↦ (
          let to = holds.stays d (h.0.from ∙ at) ∙ ap Some (carry_by-same x.reply x.before x.after d plain) in
          let ih = faulted_replies w (suc n) x.after _ x.to xs last d m kind fault_on h.1 to in
          subst (λ (l : List ReplyContent). RepliesBy l s w d m kind) (sym (replies_idle w x xs holds.idle)) (subst (λ (z : Store). RepliesBy (step_replies w xs) z w d m kind) same_store ih))
      | inr goes ↦ (
          let same : d ≡ goes.at = cc (at, goes.stood, h.0.from) in
          let b = x.before in
          let rest = step_replies w xs in
          let found = next_live b goes.at in
          let content : step_replies w (x ∷ xs) ≡ stop_reply b w found ∷ rest = replies_step w x xs goes.stepped ∙ ap (λ (y : ReplyContent). y ∷ rest) (search arith) in
          let ih : (j : ℕ) → RepliesBy rest b w (end_of_step x goes.at) j kind = λ j. subst (λ (z : Store). RepliesBy rest z w (end_of_step x goes.at) j kind) stays (faulted_replies w (suc n) x.after _ x.to xs last (end_of_step x goes.at) j kind fault_on h.1 goes.is_there) in
          let here : RepliesBy (stop_reply b w found ∷ rest) b w goes.at m kind = λ le. damaged_step b w goes.at m (length rest) kind found rest fault_x refl (records_next b goes.at found h.0.sound refl) (λ e. none_at_end b h.0.sound) le (λ j k. ih j k) in
          subst (λ (e : ℕ). RepliesBy (step_replies w (x ∷ xs)) s w e m kind) (sym same)
          (subst (λ (z : Store). RepliesBy (step_replies w (x ∷ xs)) z w goes.at m kind) h.0.before
          (subst (λ (l : List ReplyContent). RepliesBy l b w goes.at m kind) (sym content) here)))
    ]

pub faulted_from : (n : ℕ) (s : Store) (names : List RecordName) (c : Option ℕ) (t : Track) (last : Store) → IsTrack n s names c t last → (earlier : Track) (x : WalkEvent) (later : Track) (d : ℕ) (kind : FaultKind) → t ≡ earlier ++ (x ∷ later) → x.from ≡ Some d → x.before.fault ≡ Some kind → GiveToFault x.before x.walk d kind (step_replies x.walk (x ∷ later))
faulted_from n s names c t last h earlier x later d kind is at fault =
    let rest = track_rest n s names c earlier (x ∷ later) last (subst (λ (z : Track). IsTrack n s names c z last) is h) in
    let fault_s = ap (λ (z : Store). z.fault) (sym rest.0.before) ∙ fault in
    let all = step_replies x.walk (x ∷ later) in
    subst (λ (z : Store). GiveToFault z x.walk d kind all) (sym rest.0.before) (faulted_replies x.walk _ _ _ _ (x ∷ later) last d (length all) kind fault_s rest (sym rest.0.from ∙ at) (omega arith))

-- each step of the walk gets a reply to it; without a record, the reply is the end or the fault
pub steps_replied : (n : ℕ) (s : Store) (names : List RecordName) (c : Option ℕ) (t : Track) (last : Store) → IsTrack n s names c t last → AllByRecursion (λ x. is_step_reply x.walk x.reply ≡ x.stepped) t
steps_replied n s names c [] last h = tt
steps_replied n s names c (x ∷ xs) last h = (elim (effect_of x h.0.effect) [ inl holds ↦ holds.other ∙ sym holds.idle | inr goes ↦ goes.own ∙ sym goes.stepped ], steps_replied (suc n) x.after _ x.to xs last h.1)

pub others_end : (n : ℕ) (s : Store) (names : List RecordName) (c : Option ℕ) (t : Track) (last : Store) → IsTrack n s names c t last → AllByRecursion (λ x. x.stepped ≡ true → is_gave x.reply ≡ false → completes x.walk x.reply ≡ true) t
others_end n s names c [] last h = tt
others_end n s names c (x ∷ xs) last h = grind (arith, nat_tests, others_end (suc n) x.after _ x.to xs last h.1)
