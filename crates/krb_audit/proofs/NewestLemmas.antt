-- The newest entry of a name is one of its entries, and not old.
use Rattle.krb_audit.proofs.Cited.{◌≡◌, Bool, true, false, cond, List, [], ◌∷◌, Option, Some, None, refl, subst, arith, eq-eqb, Parts, have_same_name, EntryParts, PlacedEntry, is_old, ◌⊎◌, inl, inr, filter, Contains, is_newer, newer, newest_from, newest, has_other_version, Contains-append_left, Contains-append_right, Contains-append_cases, Contains-push, Contains-push_cases, filter_agree}
use Rattle.krb_audit.specs.Laws.{HasEntry}
use Rattle.krb_names.proofs.SameNames.{same_equiv}

-- ---- it is one of the entries

newer_is : (o : Option EntryParts) (later e : EntryParts) → newer o later ≡ Some e → (o ≡ Some e) ⊎ (later ≡ e)
newer_is o later e is = grind (arith, is)

-- the entry is the newest so far, or is one of the entries and has the name
abbrev Found : Parts → Option EntryParts → List PlacedEntry → EntryParts → Type 0
Found name o xs e = (o ≡ Some e) ⊎ HasEntry xs name e

behind : (name : Parts) (x : PlacedEntry) (xs : List PlacedEntry) (e : EntryParts) → HasEntry xs name e → HasEntry (x ∷ xs) name e
behind name x xs e h = (h.0, Contains-append_right (x ∷ []) xs (h.0, e) h.1, h.2)

first : (x : PlacedEntry) (xs : List PlacedEntry) → Contains (x ∷ xs) x
first x xs = Contains-append_left (x ∷ []) xs x (Contains-push [] x)

found_by : (b : Bool) (name : Parts) (o : Option EntryParts) (x : PlacedEntry) (xs ys : List PlacedEntry) (e : EntryParts) → have_same_name name x.1.principal ≡ b
    → ((o' : Option EntryParts) → newest_from o' ys ≡ Some e → Found name o' xs e) → newest_from o (cond b (x ∷ ys) ys) ≡ Some e → Found name o (x ∷ xs) e
found_by true name o x xs ys e same ih is = elim (ih (newer o x.1) is) [
  | inl found ↦ elim (newer_is o x.1 e found) [
    | inl before ↦ inl before
    | inr this ↦ inr (x.0, subst (λ (z : EntryParts). Contains (x ∷ xs) (x.0, z)) this (first x xs), subst (λ (z : EntryParts). have_same_name name z.principal ≡ true) this same)
  ]
  | inr found ↦ inr (behind name x xs e found)
]
found_by false name o x xs ys e other ih is = search (arith, behind)

found_in : (name : Parts) (o : Option EntryParts) (xs : List PlacedEntry) (e : EntryParts) → newest_from o (filter (λ x. have_same_name name x.1.principal) xs) ≡ Some e → Found name o xs e
found_in name o [] e is = inl is
found_in name o (x ∷ xs) e is =
    found_by (have_same_name name x.1.principal) name o x xs (filter (λ y. have_same_name name y.1.principal) xs) e refl (λ o' h. found_in name o' xs e h) is

pub newest_is : (name : Parts) (xs : List PlacedEntry) (e : EntryParts) → newest name xs ≡ Some e → HasEntry xs name e
newest_is name xs e is = search (arith, found_in)

-- ---- a name that has an entry has a newest one

-- there is one
abbrev IsThere : Option EntryParts → Type 0
IsThere o = (e : EntryParts) × (o ≡ Some e)

stays : (a : EntryParts) (ys : List PlacedEntry) → IsThere (newest_from (Some a) ys)
stays a [] = (a, refl)
stays a (y ∷ ys) = stays (cond (is_newer a y.1) y.1 a) ys

begins : (o : Option EntryParts) (x : EntryParts) (ys : List PlacedEntry) → IsThere (newest_from (newer o x) ys)
begins None x ys = stays x ys
begins (Some a) x ys = stays (cond (is_newer a x) x a) ys

there_by : (b : Bool) (o : Option EntryParts) (x : PlacedEntry) (ys : List PlacedEntry) → ((b ≡ false) → IsThere (newest_from o ys)) → IsThere (newest_from o (cond b (x ∷ ys) ys))
there_by true o x ys ih = begins o x.1 ys
there_by false o x ys ih = ih refl

none_in : (x : PlacedEntry) → Contains [] x → ⊥
none_in x h = let lt = h.1 in absurd (omega (arith, lt))

there : (name : Parts) (xs : List PlacedEntry) (x : PlacedEntry) → have_same_name name x.1.principal ≡ true → Contains xs x → IsThere (newest name xs)
there name [] x same h = absurd (none_in x h)
there name (y ∷ ys) x same h = search (arith, there_by, Contains-append_cases, Contains-push_cases, none_in, there name ys x same)

-- ---- and that is not old

not_other : (e : EntryParts) (o : Option EntryParts) → o ≡ Some e → has_other_version e o ≡ false
not_other e o is = grind (arith, is, eq-eqb e.version e.version)

pub newest_kept : (name : Parts) (xs : List PlacedEntry) (e : EntryParts) → newest name xs ≡ Some e → is_old xs e ≡ false
newest_kept name xs e is = grind (arith, is, not_other e (newest e.principal xs), filter_agree _ _ (λ x. same_equiv.congr name e.principal x.1.principal (newest_is name xs e is).2) xs)

pub name_kept : (xs : List PlacedEntry) (x : PlacedEntry) → Contains xs x → (e : EntryParts) × HasEntry xs x.1.principal e × (is_old xs e ≡ false)
name_kept xs x h =
    let name = x.1.principal in
    let n = there name xs x (same_equiv.refl name) h in
    (n.0, newest_is name xs n.0 n.1, newest_kept name xs n.0 n.1)
