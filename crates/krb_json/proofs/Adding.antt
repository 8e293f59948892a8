-- Elements of an array, some after others.
use Rattle.krb_json.proofs.Cited.{◌≡◌, ℕ, ◌+◌, ◌<◌, Bool, true, List, [], ◌∷◌, ◌++◌, length, take, drop, fold, flat_map, map, Option, None, Some, cons_option, Result, Ok, Err, refl, sym, subst, ap, ◌∙◌, append_assoc, append-nil, IsFalse, on_ok_weaker, Json, Gathers, passed_none, element_text, elements_text, ArePlain, Adds, AddsAfter, Elements, missing_value, Bor, get_or, flat_map-append, take-append-drop, take_more, flat_map_more, fold-append, OutFault, Watch, arith, on_err_weaker, Passed, Prints, passed_last, passed_fail, gathers_memory}
use Rattle.std.specs.Result.{IsErrAnd}
use Rattle.krb_files.specs.declared.output.OutFault.TheVariants.{NoMemory}
use Rattle.krb_files.proofs.Prefixes.{Appends-trans, AppendsPrefix-longer, AppendsPrefix-none}

-- ---- texts that are gathered and sent, one after the other

-- a whole text passed, and then another after what is gathered
passed_on : (o p q : Option (List ℕ)) (whole x b more : List ℕ) → Passed o p whole [] b → Passed p q (b ++ x) [] more → Passed o q (whole ++ x) [] more
passed_on o p q whole x b more h k = record {
  sent = h.sent ++ k.sent;
  appends = Appends-trans o p q h.sent k.sent h.appends k.appends;
  parts = ap (λ (t : List ℕ). t ++ x) (h.parts ∙ ap (λ (t : List ℕ). h.sent ++ t) (append-nil b)) ∙ append_assoc h.sent b x
      ∙ ap (λ (t : List ℕ). h.sent ++ t) k.parts ∙ sym (append_assoc h.sent k.sent (more ++ []));
}

-- three pieces: `Gathers` of the first and the last, and the second appended to what was gathered
pub gathers_three : {T U : Type 0} (o p q : Watch) (b x y z c d e : List ℕ) (v : T) (r : Result U OutFault) → Gathers o p b c (Ok v) x → d ≡ c ++ y → Gathers p q d e r z → Gathers o q b e r (x ++ (y ++ z))
gathers_three o p q b x y z c d e v r first is last =
    let passed = passed_last _ _ (b ++ x) y c d first.ok is in
    record {
      ok = on_ok_weaker r (λ sent. rw (sym (append_assoc b x (y ++ z)), sym (append_assoc (b ++ x) y z)) (passed_on _ _ _ _ z d e passed sent)) last.ok;
      prefix = on_err_weaker r (λ sent. rw (sym (append_assoc b x (y ++ z)), sym (append_assoc (b ++ x) y z)) (passed_fail _ _ _ _ [] (d ++ z) (passed_last _ _ _ z d (d ++ z) passed refl) sent)) last.prefix;
      failed = last.failed;
    }

-- if the first of two pieces fails, so do both
pub gathers_two_fails : {T U : Type 0} (o p : Watch) (b x y c d : List ℕ) (e : OutFault) → Gathers {T = T} o p b c (Err e) x → Gathers {T = U} o p b d (Err e) (x ++ y)
gathers_two_fails o p b x y c d e h = record { ok = tt; prefix = rw (sym (append_assoc b x y)) (AppendsPrefix-longer _ _ (b ++ x) y h.prefix); failed = h.failed }

-- the first of two pieces was gathered, and then an allocation failed
pub gathers_then_memory : {T U : Type 0} (o p : Watch) (b x y c d : List ℕ) (v : T) (e : OutFault) → Gathers o p b c (Ok v) x → e ≡ NoMemory → Gathers {T = U} o p b d (Err e) (x ++ y)
gathers_then_memory {T} o p b x y c d v e h is =
    gathers_two_fails {T = T} o p b x y c d e (gathers_memory o p b c x [] c e h.ok h.failed is)

-- nothing was printed, because an allocation failed
pub prints_memory : {T : Type 0} (o : Watch) (text : List ℕ) (r : Result T OutFault) → IsFalse o.failed → IsErrAnd r (λ e. e ≡ NoMemory) → Prints o o r text
prints_memory o text (Ok v) well is = absurd is
prints_memory o text (Err e) well is = record { ok = tt; prefix = AppendsPrefix-none o.contents text; failed = rw is well }

elements_append : (a : Bool) (vs ws : List Json) → elements_text a (vs ++ ws) ≡ elements_text a vs ++ elements_text (fold (λ _ _. true) a vs) ws
elements_append a [] ws = refl
elements_append a (v ∷ vs) ws =
    ap (λ l. element_text a v ++ l) (elements_append true vs ws) ∙ sym (append_assoc (element_text a v) (elements_text true vs) (elements_text (fold (λ _ _. true) true vs) ws))

plain_append : (vs ws : List Json) → ArePlain vs → ArePlain ws → ArePlain (vs ++ ws)
plain_append [] ws h k = k
plain_append (v ∷ vs) ws h k = (h.0, plain_append vs ws h.1 k)

-- some elements, and then others
pub adds_two : {A : Type 0} {o p q : Watch} {b : List ℕ} {f : Bool} {c d : Elements A} {r : Result (Unit {0}) OutFault} (vs ws : List Json) → AddsAfter o p b f c (Ok tt) vs → Adds p q c d r ws → AddsAfter o q b f d r (vs ++ ws)
adds_two {o = o} {p = p} {q = q} {b = b} {f = f} {c = c} {d = d} {r = r} vs ws first second =
    let both : Gathers o q b d.gathered.items r (elements_text f vs ++ elements_text c.is_after ws) =
    gathers_three o p q b (elements_text f vs) [] (elements_text c.is_after ws) c.gathered.items c.gathered.items d.gathered.items tt r first.gathers (sym (append-nil c.gathered.items)) second.gathers in
    record {
      gathers = rw (elements_append f vs ws, ← first.is_after) both;
      is_after = on_ok_weaker r (λ e. e ∙ ap (λ t. fold (λ _ _. true) t ws) first.is_after ∙ sym (fold-append (λ _ _. true) f vs ws)) second.is_after;
      plain = on_ok_weaker r (λ h. plain_append vs ws first.plain h) second.plain;
      empty = second.empty;
    }

-- if some elements fail, so do they with others
pub adds_fails : {A : Type 0} {o p : Watch} {b : List ℕ} {f : Bool} {c : Elements A} {e : OutFault} (vs ws : List Json) → AddsAfter o p b f c (Err e) vs → AddsAfter o p b f c (Err e) (vs ++ ws)
adds_fails {f = f} vs ws h =
    record { gathers = rw (elements_append f vs ws) (gathers_two_fails _ _ _ _ _ _ _ _ h.gathers); is_after = tt; plain = tt; empty = tt }

-- the elements of a list's items so far, and then those of the next
pub adds_next : {A X : Type 0} {o p q : Watch} {b : List ℕ} {f : Bool} {c d : Elements A} {r : Result (Unit {0}) OutFault} (g : X → List Json) (xs : List X) (i : ℕ) (x : X) → i < length xs → AddsAfter o p b f c (Ok tt) (flat_map g (take i xs)) → Adds p q c d r (g (get_or xs i x))
    → AddsAfter o q b f d r (flat_map g (take (i + 1) xs))
adds_next g xs i x lt h k =
    let more = ap (flat_map g) (take_more xs i x lt) ∙ sym (flat_map_more g [] (take i xs) (get_or xs i x)) in
    rw more (adds_two (flat_map g (take i xs)) (g (get_or xs i x)) h k)

-- if those of the next fail, so do those of the list
pub adds_stop : {A X : Type 0} {o p q : Watch} {b : List ℕ} {f : Bool} {c d : Elements A} {e : OutFault} (g : X → List Json) (xs : List X) (i : ℕ) (x : X) → i < length xs → AddsAfter o p b f c (Ok tt) (flat_map g (take i xs)) → Adds p q c d (Err e) (g (get_or xs i x))
    → AddsAfter o q b f d (Err e) (flat_map g xs)
adds_stop g xs i x lt h k =
    let whole = ap (flat_map g) (sym (take-append-drop (i + 1) xs)) ∙ flat_map-append g (take (i + 1) xs) (drop (i + 1) xs) in
    rw whole (adds_fails (flat_map g (take (i + 1) xs)) (flat_map g (drop (i + 1) xs)) (adds_next g xs i x lt h k))

pub missing_are : (names : List (Bor (List ℕ))) → flat_map (λ t. missing_value t.now ∷ []) names ≡ map missing_value (map (λ t. t.now) names)
missing_are [] = refl
missing_are (name ∷ names) = ap (λ l. missing_value name.now ∷ l) (missing_are names)

-- ---- over an iterator

-- of all elements some are added, and the rest is still to come
pub record AddsSome {A : Type 0} (old new : Watch) (before : List ℕ) (follows : Bool) (after : Elements A) (rest all : List Json) : Type 0 where
  pub added : List Json
  pub adds : AddsAfter old new before follows after (Ok tt) added
  pub whole : added ++ rest ≡ all

pub adds_none : {A : Type 0} (o : Watch) (c : Elements A) (rest all : List Json) → IsFalse o.failed → c.piece ≡ [] → rest ≡ all → AddsSome o o c.gathered.items c.is_after c rest all
adds_none o c rest all well empty is = record {
  added = [];
  adds = record { gathers = record { ok = passed_none _ _ [] _ refl; prefix = tt; failed = well }; is_after = refl; plain = tt; empty = empty };
  whole = is;
}

-- the next are added
pub adds_more : {A : Type 0} {o p q : Watch} {b : List ℕ} {f : Bool} {c d : Elements A} (ws rest all : List Json) → AddsSome o p b f c (ws ++ rest) all → Adds p q c d (Ok tt) ws → AddsSome o q b f d rest all
adds_more ws rest all h k = record { added = h.added ++ ws; adds = adds_two h.added ws h.adds k; whole = append_assoc h.added ws rest ∙ h.whole }

-- they fail
pub adds_no_more : {A : Type 0} {o p q : Watch} {b : List ℕ} {f : Bool} {c d : Elements A} {e : OutFault} (ws rest all : List Json) → AddsSome o p b f c (ws ++ rest) all → Adds p q c d (Err e) ws → AddsAfter o q b f d (Err e) all
adds_no_more {o = o} {q = q} {b = b} {f = f} {d = d} {e = e} ws rest all h k =
    subst (AddsAfter o q b f d (Err e)) (append_assoc h.added ws rest ∙ h.whole) (adds_fails (h.added ++ ws) rest (adds_two h.added ws h.adds k))

-- all are added
pub adds_all : {A : Type 0} {o p : Watch} {b : List ℕ} {f : Bool} {c : Elements A} (all : List Json) → AddsSome o p b f c [] all → AddsAfter o p b f c (Ok tt) all
adds_all {o = o} {p = p} {b = b} {f = f} {c = c} all h = subst (AddsAfter o p b f c (Ok tt)) (sym (append-nil h.added) ∙ h.whole) h.adds

-- an element, if there is one, and others
pub cons_front : (o : Option Json) (vs : List Json) → cons_option o vs ≡ cons_option o [] ++ vs
cons_front o vs = grind arith
