-- What fits a pattern, part by part.
use Rattle.krb_names.proofs.Cited.{◌≡◌, ◌∙◌, sym, ap, refl, arith, ℕ, ◌+◌, ◌<◌, Bool, true, false, List, [], ◌∷◌, ◌++◌, length, take, Some, None, ◌-◌, ◌||◌, ◌&&◌, ◌==◌, bytes_eq, bytes_eq-Decides}
use Rattle.std.proofs.Common.{zero, suc, ◌≤◌, drop, nat_eq, slice_index, drop-drop, length-append, length-drop, length-take, ⊎_elim, true≢false}
use Rattle.std.specs.List.{starts_with, ends_with}
use Rattle.std.proofs.lemmas.Bool.{and_parts, and_from, or_left, or_right, or_from, or_parts, cases_Bool, cases_lt, eqb-true}
use Rattle.memchr.specs.Find.{FindsNeedle, OccursAt}
use Rattle.memchr.proofs.lemmas.MatchLemmas.{OccursAt-part, OccursAt-from_part}
use Rattle.krb_names.specs.Patterns.{fits_bytes, has_star, of_some_rest, star}

pub same_bool : (a b : Bool) → (a ≡ true → b ≡ true) → (b ≡ true → a ≡ true) → a ≡ b
same_bool true b to from = sym (to refl)
same_bool false true to from = from refl
same_bool false false to from = refl

-- ---- of some rest

-- it holds of a rest
pub rest_from : (test : List ℕ → Bool) (k : ℕ) (bytes : List ℕ) → test (drop k bytes) ≡ true → of_some_rest test bytes ≡ true
rest_from test zero [] holds = holds
rest_from test (suc k) [] holds = holds
rest_from test zero (b ∷ bs) holds = or_left _ _ holds
rest_from test (suc k) (b ∷ bs) holds = or_right _ _ (rest_from test k bs holds)

-- a rest of bytes for which a test holds
pub record HoldsOfRest (test : List ℕ → Bool) (bytes : List ℕ) : Type 0 where
  pub at : ℕ
  pub within : at ≤ length bytes
  pub holds : test (drop at bytes) ≡ true

further : (test : List ℕ → Bool) (b : ℕ) (bs : List ℕ) → HoldsOfRest test bs → HoldsOfRest test (b ∷ bs)
further test b bs rest = record { at = suc rest.at; within = omega (arith, rest.within); holds = rest.holds }

pub rest_at : (test : List ℕ → Bool) (bytes : List ℕ) → of_some_rest test bytes ≡ true → HoldsOfRest test bytes
rest_at test [] holds = record { at = 0; within = omega arith; holds = holds }
rest_at test (b ∷ bs) holds =
    ⊎_elim (λ here. record { at = 0; within = omega arith; holds = here }) (λ not_here. further test b bs (rest_at test bs (ap (λ (t : Bool). t || of_some_rest test bs) (sym not_here) ∙ holds))) (cases_Bool (test (b ∷ bs)))

-- what holds of some rest of a rest holds of some rest
rest_of_rest : (test : List ℕ → Bool) (k : ℕ) (bytes : List ℕ) → of_some_rest test (drop k bytes) ≡ true → of_some_rest test bytes ≡ true
rest_of_rest test k bytes holds =
    let rest = rest_at test (drop k bytes) holds in
    rest_from test (k + rest.at) bytes (ap test (sym (drop-drop rest.at k bytes)) ∙ rest.holds)

-- ---- parts without a star

-- bytes begin with a part
abbrev pub begins : List ℕ → List ℕ → Bool
begins part bytes = starts_with nat_eq bytes part

plain_take : (n : ℕ) (part : List ℕ) → has_star part ≡ false → has_star (take n part) ≡ false
plain_take zero part plain = refl
plain_take (suc n) [] plain = refl
plain_take (suc n) (p ∷ ps) plain =
    let parts = or_parts (p == star) (has_star ps) plain in
    or_from (p == star) (has_star (take n ps)) parts.0 (plain_take n ps parts.1)

-- a part with more bytes before its first star than there are fits itself
pub fits_short : (n : ℕ) (part bytes : List ℕ) → length bytes < n → has_star (take n part) ≡ false → fits_bytes part bytes ≡ bytes_eq part bytes
fits_short zero part bytes below plain = absurd (omega (arith, below))
fits_short (suc n) [] [] below plain = refl
fits_short (suc n) [] (b ∷ bs) below plain = refl
fits_short (suc n) (p ∷ ps) [] below plain = grind (arith, or_parts (p == star) (has_star (take n ps)) plain)
fits_short (suc n) (p ∷ ps) (b ∷ bs) below plain =
    let parts = or_parts (p == star) (has_star (take n ps)) plain in
    grind (arith, parts.0, fits_short n ps bs (omega (arith, below)) parts.1)

-- a part without a star fits itself
pub fits_plain : (part bytes : List ℕ) → has_star part ≡ false → fits_bytes part bytes ≡ bytes_eq part bytes
fits_plain part bytes plain = fits_short (length bytes + 1) part bytes (omega arith) (plain_take (length bytes + 1) part plain)

-- a part without a star before the first one fits the bytes that begin with it, and what follows the star fits some rest
pub fits_part : (part ps bytes : List ℕ) → has_star part ≡ false → fits_bytes (part ++ star ∷ ps) bytes ≡ (begins part bytes && of_some_rest (fits_bytes ps) (drop (length part) bytes))
fits_part [] ps [] plain = refl
fits_part [] ps (b ∷ bs) plain = refl
fits_part (p ∷ part) ps [] plain = grind (arith, or_parts (p == star) (has_star part) plain)
fits_part (p ∷ part) ps (b ∷ bs) plain =
    let parts = or_parts (p == star) (has_star part) plain in
    grind (arith, parts.0, fits_part part ps bs parts.1)

-- after a star, what has no other star, or more bytes before one than there are, is at the end
pub fits_end : (part bytes : List ℕ) → has_star (take (length bytes + 1) part) ≡ false → of_some_rest (fits_bytes part) bytes ≡ ends_with nat_eq bytes part
fits_end part bytes plain =
    let short : (at : ℕ) → fits_bytes part (drop at bytes) ≡ bytes_eq part (drop at bytes) = λ at. fits_short (length bytes + 1) part (drop at bytes) (omega (arith, length-drop at bytes)) plain in
    same_bool _ _
    (λ fits.
    let rest = rest_at (fits_bytes part) bytes fits in
    let same : part ≡ drop rest.at bytes = (bytes_eq-Decides part (drop rest.at bytes)).0 (sym (short rest.at) ∙ rest.holds) in
    let at : length bytes - length part ≡ rest.at = omega (arith, rest.within, ap length same, length-drop rest.at bytes) in
    (bytes_eq-Decides part (drop (length bytes - length part) bytes)).1 (same ∙ ap (λ n. drop n bytes) (sym at)))
    (λ ends. rest_from (fits_bytes part) (length bytes - length part) bytes (short (length bytes - length part) ∙ ends))

ends_somewhere : (bytes : List ℕ) → of_some_rest (fits_bytes []) bytes ≡ true
ends_somewhere [] = refl
ends_somewhere (b ∷ bs) = ends_somewhere bs

-- any bytes fit one star
pub fits_star : (bytes : List ℕ) → fits_bytes (star ∷ []) bytes ≡ true
fits_star [] = refl
fits_star (b ∷ bs) = ends_somewhere bs

-- ---- the first star

-- there is no star before a place if none of the bytes before it is one
pub plain_before : (end : ℕ) (pattern : List ℕ) → ((k : ℕ) → k < end → k < length pattern → (slice_index pattern k == star) ≡ true → ⊥) → has_star (take end pattern) ≡ false
plain_before zero pattern none = refl
plain_before (suc end) [] none = refl
plain_before (suc end) (b ∷ bs) none =
    or_from (b == star) (has_star (take end bs)) (⊎_elim (λ is. absurd (none 0 (omega arith) (omega arith) is)) (λ not_is. not_is) (cases_Bool (b == star)))
    (plain_before end bs (λ k before within is. none (suc k) (omega (arith, before)) (omega (arith, within)) is))

pub shorter : (pattern part rest : List ℕ) → pattern ≡ part ++ star ∷ rest → length rest < length pattern
shorter pattern part rest is = omega (arith, ap length is, length-append part (star ∷ rest))

-- what is left from a star on
pub from_star : (end : ℕ) (pattern : List ℕ) → end < length pattern → (slice_index pattern end == star) ≡ true → drop end pattern ≡ star ∷ drop 1 (drop end pattern)
from_star end [] within is = absurd (omega (arith, within))
from_star zero (b ∷ bs) within is = ap (λ (c : ℕ). c ∷ bs) (eqb-true b star is)
from_star (suc end) (b ∷ bs) within is = from_star end bs (omega (arith, within)) is

-- ---- the first place of a part

begins_occurs : (part bytes : List ℕ) (k : ℕ) → k ≤ length bytes → begins part (drop k bytes) ≡ true → OccursAt bytes part k
begins_occurs part bytes k within is =
    let same : part ≡ take (length part) (drop k bytes) = (bytes_eq-Decides part (take (length part) (drop k bytes))).0 is in
    OccursAt-from_part bytes part k (omega (arith, within, ap length same, length-take (length part) (drop k bytes), length-drop k bytes)) (sym same)

occurs_begins : (part bytes : List ℕ) (k : ℕ) → OccursAt bytes part k → begins part (drop k bytes) ≡ true
occurs_begins part bytes k occurs = (bytes_eq-Decides part (take (length part) (drop k bytes))).1 (sym (OccursAt-part bytes part k occurs))

-- what fits from a place on, where the part is and then some rest fits
fits_from : (part ps bytes : List ℕ) (k : ℕ) → has_star part ≡ false → fits_bytes (part ++ star ∷ ps) (drop k bytes) ≡ (begins part (drop k bytes) && of_some_rest (fits_bytes ps) (drop (k + length part) bytes))
fits_from part ps bytes k plain = fits_part part ps (drop k bytes) plain ∙ ap (λ (l : List ℕ). begins part (drop k bytes) && of_some_rest (fits_bytes ps) l) (drop-drop (length part) k bytes)

-- where a part is at some place, it is sought at the first one: a star before it covers what is passed over, and the star after it what is between the first place and another
pub found_first : (part ps bytes : List ℕ) (start : ℕ) → has_star part ≡ false → FindsNeedle bytes part 0 (Some start) → of_some_rest (fits_bytes (part ++ star ∷ ps)) bytes ≡ of_some_rest (fits_bytes ps) (drop (start + length part) bytes)
found_first part ps bytes start plain found =
    same_bool _ _
    (λ fits.
    let rest = rest_at (fits_bytes (part ++ star ∷ ps)) bytes fits in
    let both = and_parts _ _ (sym (fits_from part ps bytes rest.at plain) ∙ rest.holds) in
    let occurs = begins_occurs part bytes rest.at rest.within both.0 in
    let later : start ≤ rest.at = ⊎_elim (λ before. absurd (found.0.before rest.at (omega arith) before occurs)) (λ not_before. not_before) (cases_lt rest.at start) in
    let place : start + length part + (rest.at - start) ≡ rest.at + length part = omega (arith, later) in
    let past : drop (rest.at - start) (drop (start + length part) bytes) ≡ drop (rest.at + length part) bytes = drop-drop (rest.at - start) (start + length part) bytes ∙ ap (λ n. drop n bytes) place in
    rest_of_rest (fits_bytes ps) (rest.at - start) (drop (start + length part) bytes) (ap (of_some_rest (fits_bytes ps)) past ∙ both.1))
    (λ fits. rest_from (fits_bytes (part ++ star ∷ ps)) start bytes (fits_from part ps bytes start plain ∙ and_from _ _ (occurs_begins part bytes start found.1) fits))

-- where a part is at no place, nothing fits
pub found_nowhere : (part ps bytes : List ℕ) → has_star part ≡ false → FindsNeedle bytes part 0 None → of_some_rest (fits_bytes (part ++ star ∷ ps)) bytes ≡ false
found_nowhere part ps bytes plain nowhere =
    same_bool _ _
    (λ fits.
    let rest = rest_at (fits_bytes (part ++ star ∷ ps)) bytes fits in
    let both = and_parts _ _ (sym (fits_from part ps bytes rest.at plain) ∙ rest.holds) in
    absurd (nowhere rest.at (omega arith) (omega (arith, rest.within)) (begins_occurs part bytes rest.at rest.within both.0)))
    (λ none. absurd (true≢false (sym none)))
