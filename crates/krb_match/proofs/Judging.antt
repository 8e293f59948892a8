-- What is said of a ticket, by the number of its name.
use Rattle.krb_match.proofs.Cited.{◌≡◌, ◌∙◌, sym, ap, refl, arith, ℕ, Bool, true, false, List, [], ◌∷◌, length, ◌==◌, ◌||◌, ◌&&◌, Option, Some, None, option_map, option_or, option_map_or, filter, find, fold, eqb-true, Parts, have_same_name, PlacedEntry, newest_version, asked_version, entry_etype, etypes_of, fits, judged_among, named, no_opener, opener, wanted, AreKeys, AreUnited, first_of, firsts_of, fitting_of, group_in, HasNumber, is_any, is_of, versions, with_entry, Fitting, Keys, TicketEncryption, names_agree, entry_key, name_key, is_in, Kvno, Etype, Opens, hash_of, bytes_eq-Decides, slice_get, and-true}
use Rattle.krb_match.proofs.Finding.{find_filter, find_three}
use Rattle.krb_match.proofs.Numbering.{some_named}
use Rattle.krb_match.proofs.Noting.{group_first, group_newest}

pub filter_filter : {X : Type 0} (t q : X → Bool) (xs : List X) → filter q (filter t xs) ≡ filter (λ x. t x && q x) xs
filter_filter t q [] = refl
filter_filter t q (x ∷ xs) = grind (arith, filter_filter t q xs)

-- entries are of one of three versions iff their version fits
fits_by : (asked etype : Option ℕ) (p : Parts) (x : PlacedEntry) (t : Bool) → ((is_of p (versions asked).0 etype x && t) || ((is_of p (versions asked).1 etype x && t) || (is_of p (versions asked).2 etype x && t))) ≡ (have_same_name p x.1.principal && (is_any etype x.1.enctype && (fits asked x.1.version && t)))
fits_by asked etype p x t = search arith

filter_all : {X : Type 0} (xs : List X) → filter (λ x. true) xs ≡ xs
filter_all [] = refl
filter_all (x ∷ xs) = ap (λ l. x ∷ l) (filter_all xs)

any_first : {X : Type 0} (xs : List X) → find (λ x. true) xs ≡ slice_get xs 0
any_first [] = refl
any_first (x ∷ xs) = refl

mapped_or : {X Y : Type 0} (f : X → Y) (o r : Option X) → option_or (option_map f o) (option_map f r) ≡ option_map f (option_or o r)
mapped_or f o r = search arith

pub no_etypes : (newest : ℕ) (ns : List ℕ) → (length ns == 0) ≡ true → no_opener newest ns ≡ Kvno newest
no_etypes newest ns e = search (arith, eqb-true)

pub some_etypes : (newest : ℕ) (ns : List ℕ) → (length ns == 0) ≡ false → no_opener newest ns ≡ Etype ns
some_etypes newest ns e = search arith

-- the first entry of a name, a version and an enctype
class_first : (p : Parts) (w n : ℕ) (xs : List PlacedEntry) → find (is_of p (Some w) (Some n)) xs ≡ find (λ x. x.1.version == w) (filter (λ x. x.1.enctype == n) (named p xs))
class_first p w n xs = search (arith, find_filter)

opens_among : (e : TicketEncryption) (v n place : ℕ) (ys : List PlacedEntry) → asked_version e.kvno ≡ Some v → entry_etype e.etype ≡ Some n → option_map (λ x. x.0) (find (λ x. x.1.version == v) (filter (λ x. x.1.enctype == n) ys)) ≡ Some place → judged_among e ys ≡ Opens place
opens_among e v n place [] asked etype is = absurd cc
opens_among e v n place (y ∷ ys) asked etype is = grind (arith, asked, etype, is)

-- the first entry of a ticket's version and enctype opens it
pub class_opens : (e : TicketEncryption) (p : Parts) (v n place : ℕ) (xs : List PlacedEntry) → asked_version e.kvno ≡ Some v → entry_etype e.etype ≡ Some n → option_map (λ x. x.0) (find (is_of p (Some v) (Some n)) xs) ≡ Some place → judged_among e (named p xs) ≡ Opens place
class_opens e p v n place xs asked etype is = opens_among e v n place (named p xs) asked etype (ap (option_map (λ (x : PlacedEntry). x.0)) (sym (class_first p v n xs)) ∙ is)

module _ {A : Type 0} (xs : List PlacedEntry) (p : Parts) (i : ℕ) (keys : Keys A) (h : AreKeys xs keys) (number : HasNumber keys p i) where
  abbrev same : PlacedEntry → Bool
  same = λ x. have_same_name p x.1.principal

  group_is : (v e : Option ℕ) → group_in keys.groups (i, v, e) ≡ fold with_entry None (filter (is_of p v e) xs)
  group_is v e = h.noted p i v e number

  -- of each kind of enctype the first entry of a group
  found_in : (v e : Option ℕ) (t : ℕ → Bool) → find (λ f. t f.1) (firsts_of (group_in keys.groups (i, v, e))) ≡ option_map first_of (find (λ x. is_of p v e x && t x.1.enctype) xs)
  found_in v e t = ap (λ g. find (λ f. t f.1) (firsts_of g)) (group_is v e) ∙ group_first t (filter (is_of p v e) xs) ∙ ap (option_map first_of) (find_filter (is_of p v e) (λ x. t x.1.enctype) xs)

  pub united : (asked etype : Option ℕ) (f : Fitting) → f.one.now ≡ firsts_of (group_in keys.groups (i, (versions asked).0, etype)) → f.two.now ≡ firsts_of (group_in keys.groups (i, (versions asked).1, etype)) → f.three.now ≡ firsts_of (group_in keys.groups (i, (versions asked).2, etype))
      → AreUnited (fitting_of asked etype (named p xs)) f
  united asked etype f one two three t =
      rw (one, two, three, found_in (versions asked).0 etype t, found_in (versions asked).1 etype t, found_in (versions asked).2 etype t) (find_three _ _ _ xs h.rises ∙ search (arith, fits_by, find_filter))

  pub newest_is : option_map_or (λ g. g.0.kvno) (group_in keys.groups (i, None, None)) 0 ≡ newest_version (named p xs)
  newest_is = search (arith, group_is, group_newest, and-true)

  pub wanted_is : (n : ℕ) → option_map_or (λ g. g.0.kvno) (group_in keys.groups (i, None, Some n)) 0 ≡ newest_version (filter (λ x. x.1.enctype == n) (named p xs))
  wanted_is n = search (arith, group_is, group_newest, filter_filter)

  -- the first entry of a version
  first_is : (w n : ℕ) → slice_get (firsts_of (group_in keys.groups (i, Some w, Some n))) 0 ≡ option_map first_of (find (λ x. x.1.version == w) (filter (λ x. x.1.enctype == n) (named p xs)))
  first_is w n =
      sym (any_first (firsts_of (group_in keys.groups (i, Some w, Some n)))) ∙ found_in (Some w) (Some n) (λ m. true)
      ∙ ap (λ (r : PlacedEntry → Bool). option_map first_of (find r xs)) (λ j x. and-true (is_of p (Some w) (Some n) x) j) ∙ ap (option_map first_of) (class_first p w n xs)

  pub opener_is : (asked : Option ℕ) (n w : ℕ) (o r : Option (ℕ × ℕ)) → w ≡ wanted asked (filter (λ x. x.1.enctype == n) (named p xs)) → o ≡ slice_get (firsts_of (group_in keys.groups (i, Some w, Some n))) 0
      → r ≡ option_map first_of (find (λ x. true) (fitting_of asked (Some n) (named p xs))) → option_or o r ≡ option_map first_of (opener asked (Some n) (named p xs))
  opener_is asked n w o r w_is o_is r_is = rw (o_is, r_is, first_is w n, w_is) (search (arith, find_filter, and-true, mapped_or))

  pub not_opened : (e : TicketEncryption) (asked etype : Option ℕ) (ns : List ℕ) (o : Option (ℕ × ℕ)) → asked ≡ asked_version e.kvno → etype ≡ entry_etype e.etype → o ≡ option_map first_of (opener asked etype (named p xs)) → o ≡ None
      → ns ≡ etypes_of (fitting_of asked None (named p xs)) → judged_among e (named p xs) ≡ no_opener (newest_version (named p xs)) ns
  not_opened e asked etype ns o asked_is etype_is o_is none ns_is =
      grind (arith, some_named same xs (sym (h.names p) ∙ sym number.found), asked_is, etype_is, o_is, none, ns_is, filter_all (named p xs))

-- the first entry of a class that has a key is the first of its name, version and enctype
pub first_named : (p : Parts) (h v e place : ℕ) (key : List ℕ) (xs : List PlacedEntry) → key ≡ name_key p → h ≡ hash_of key → option_map {U = ℕ × List ℕ} (λ x. (x.0, entry_key x)) (find (is_in (h, v, e)) xs) ≡ Some (place, key)
    → option_map (λ x. x.0) (find (is_of p (Some v) (Some e)) xs) ≡ Some place
first_named p h v e place key [] key_is h_is found = absurd cc
first_named p h v e place key (x ∷ xs) key_is h_is found =
    grind (arith, key_is, h_is, found, first_named p h v e place key xs key_is h_is, names_agree p x.1.principal, bytes_eq-Decides (name_key p) (entry_key x))
