-- A pass over the entries of a keytab that hands on the selected ones.
use Rattle.krb_audit.proofs.Cited.{◌≡◌, ◌∙◌, ap, sym, arith, Bool, cond, List, [], ◌∷◌, ◌++◌, append_assoc, ◌&&◌, ◌||◌, not, list_any, PlacedEntry}
use Rattle.krb_audit.specs.Ranks.{kept_after}

-- the selected ones of the entries before `rest` were taken, doubles of these can be found, and it is known whether one of them is named
pub record IsOnTheWay {T : Type 0} (has_taken : T → List PlacedEntry → Type 0) (finds : List PlacedEntry → Type 0) (test : List PlacedEntry → PlacedEntry → Bool) (named : PlacedEntry → Bool) (all rest : List PlacedEntry) (any : Bool) (taker : T) : Type 0 where
  pub seen : List PlacedEntry
  pub before : List PlacedEntry
  pub doubles : finds seen
  pub taken : has_taken taker before
  pub parts : before ++ kept_after test seen rest ≡ kept_after test [] all
  pub names : (any || list_any named rest) ≡ list_any named all

parts_by : (t : Bool) (x : PlacedEntry) (before others : List PlacedEntry) → cond t (before ++ x ∷ []) before ++ others ≡ before ++ cond t (x ∷ others) others
parts_by t x before others = grind (arith, append_assoc before (x ∷ []) others)

-- whether an entry is named is asked only if that matters
selected_by : (any m named b : Bool) → b ≡ (not (any && not m) && named) → (b && m) ≡ (named && m)
selected_by any m named b is = grind (arith, is)

named_by : (any m named b others : Bool) → b ≡ (not (any && not m) && named) → ((any || b) || others) ≡ (any || (named || others))
named_by any m named b others is = grind (arith, is)

-- one entry further
pub one_further : {T : Type 0} (has_taken : T → List PlacedEntry → Type 0) (finds after : List PlacedEntry → Type 0) (test : List PlacedEntry → PlacedEntry → Bool) (named : PlacedEntry → Bool) (all rest : List PlacedEntry) (x : PlacedEntry) (any b : Bool) (taker next : T) → (on : IsOnTheWay has_taken finds test named all (x ∷ rest) any taker)
    → (m : Bool) → after (on.seen ++ x ∷ []) → test on.seen x ≡ (named x && m) → b ≡ (not (any && not m) && named x) → ((xs : List PlacedEntry) → has_taken taker xs → has_taken next (cond (b && m) (xs ++ x ∷ []) xs)) → IsOnTheWay has_taken after test named all rest (any || b) next
one_further has_taken finds after test named all rest x any b taker next on m doubles tests is takes = record {
  seen = on.seen ++ x ∷ [];
  before = cond (b && m) (on.before ++ x ∷ []) on.before;
  doubles = doubles;
  taken = takes on.before on.taken;
  parts =
      let others = kept_after test (on.seen ++ x ∷ []) rest in
      parts_by (b && m) x on.before others ∙ ap (λ (t : Bool). on.before ++ cond t (x ∷ others) others) (selected_by any m (named x) b is ∙ sym tests) ∙ on.parts;
  names = named_by any m (named x) b (list_any named rest) is ∙ on.names;
}
