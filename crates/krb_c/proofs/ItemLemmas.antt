-- Items that are read one after the other: those so far, and those of the rest.
use Rattle.krb_c.proofs.Cited.{◌≡◌, ◌++◌, ◌∙◌, ◌∷◌, [], ℕ, List, Option, Some, None, option_map, length, ◌==◌, true, false, refl, sym, ap, arith}
use Rattle.std.specs.Prelude.{◌<◌, ◌≤◌, ◌+◌, ◌-◌, suc}
use Rattle.std.proofs.lemmas.List.{append-nil, append_assoc}
use Rattle.std.proofs.lemmas.Bool.Decides.{nat_tests}
use Rattle.krb_wire.specs.Reading.{◌>>=◌}
use Rattle.krb_ccache.specs.Credential.{TypedData, typed_data_at}
unfoldable use Rattle.krb_c.specs.Lists.{items_within}

-- those so far, and those of the rest: fewer than n - i
abbrev pub joined : List TypedData → ℕ → ℕ → List ℕ → Option (List TypedData)
joined done n i rest = option_map (λ xs. done ++ xs) (items_within (n - i) rest)

module _ (done : List TypedData) (n i : ℕ) (total : Option (List TypedData)) where
  one_more : i < n → n - i ≡ suc (n - (i + 1))
  one_more lt = omega arith

  pub all_read : (rest : List ℕ) → i < n → (length rest == 0) ≡ true → joined done n i rest ≡ total → total ≡ Some done
  unfolding items_within
  all_read [] lt e so_far = sym (rw (one_more lt) at so_far) ∙ ap Some (append-nil done)
  all_read (b ∷ bs) lt e so_far =
      let none : length (b ∷ bs) ≡ 0 = search (arith, nat_tests) in
      absurd cc

  pub not_whole : (rest : List ℕ) → i < n → (length rest == 0) ≡ false → typed_data_at rest ≡ None → joined done n i rest ≡ total → total ≡ None
  unfolding items_within
  not_whole [] lt some e so_far = absurd cc
  not_whole (b ∷ bs) lt some e so_far = sym (rw (one_more lt, e) at so_far)

  pub too_many : (rest : List ℕ) → n ≤ i → joined done n i rest ≡ total → total ≡ None
  unfolding items_within
  too_many rest le so_far =
      let none : n - i ≡ 0 = omega arith in
      sym (rw none at so_far)

  shifted : (x : TypedData) (o : Option (List TypedData)) → option_map (λ xs. (done ++ (x ∷ [])) ++ xs) o ≡ option_map (λ xs. done ++ xs) (o >>= λ xs. Some (x ∷ xs))
  shifted x None = refl
  shifted x (Some xs) = ap Some (append_assoc done (x ∷ []) xs)

  pub goes_on : (rest after : List ℕ) (x : TypedData) → i < n → (length rest == 0) ≡ false → typed_data_at rest ≡ Some (x, after) → joined done n i rest ≡ total → joined (done ++ (x ∷ [])) n (i + 1) after ≡ total
  unfolding items_within
  goes_on [] after x lt some e so_far = absurd cc
  goes_on (b ∷ bs) after x lt some e so_far = shifted x (items_within (n - (i + 1)) after) ∙ (rw (one_more lt, e) at so_far)
