-- The text of a name parses as that name.
use Rattle.krb_wire.proofs.Cited.{◌≡◌, ℕ, ◌<◌, false, List, [], ◌∷◌, ◌++◌, length, map, Option, None, Some, Ok, refl, sym, ap, ◌∙◌, arith, append_assoc, append-nil, filter_map, slice_split, onto_first, Atom, Byte, Slash, At, Parts, quoted_byte, quote, atoms, byte_of, is_slash, before_at, after_at, realm_fault, faults_of, first_fault, components_of, realm_of, name_of}
use Rattle.std.proofs.lemmas.Bool.Decides.{nat_tests}
use Rattle.krb_wire.specs.Names.{joined_components, name_text}
use Rattle.krb_wire.proofs.TextLemmas.{joined_from, joined_is}
use Rattle.krb_wire.proofs.PlainRuns.{after_at-plain}

-- a quoted byte is one atom
atoms-quoted_byte : (b : ℕ) (rest : List ℕ) → atoms (quoted_byte b ++ rest) ≡ Byte b ∷ atoms rest
atoms-quoted_byte b rest = grind (arith, nat_tests)

-- the atoms of quoted bytes
atoms-quote : (bs rest : List ℕ) → atoms (quote bs ++ rest) ≡ map Byte bs ++ atoms rest
unfolding quote
atoms-quote [] rest = refl
atoms-quote (b ∷ bs) rest = ap atoms (append_assoc (quoted_byte b) (quote bs) rest) ∙ atoms-quoted_byte b (quote bs ++ rest) ∙ ap (λ (l : List Atom). Byte b ∷ l) (atoms-quote bs rest)

-- the atoms of components, each after a `/`, before others
abbrev others_atoms : List (List ℕ) → List Atom → List Atom
others_atoms [] tail = tail
others_atoms (c ∷ cs) tail = Slash ∷ (map Byte c ++ others_atoms cs tail)

-- the atoms of the text of components, each after a `/`
atoms-others : (cs : List (List ℕ)) (rest : List ℕ) → atoms (joined_from false cs ++ rest) ≡ others_atoms cs (atoms rest)
atoms-others [] rest = refl
atoms-others (c ∷ cs) rest =
    ap (λ (l : List Atom). Slash ∷ l) (ap atoms (append_assoc (quote c) (joined_from false cs) rest) ∙ atoms-quote c (joined_from false cs ++ rest) ∙ ap (λ (l : List Atom). map Byte c ++ l) (atoms-others cs rest))

-- the atoms of a name's text
abbrev text_atoms : List ℕ → List (List ℕ) → List ℕ → List Atom
text_atoms c cs realm = map Byte c ++ others_atoms cs (At ∷ map Byte realm)

-- the atoms of the `@` and the realm
atoms-realm : (realm : List ℕ) → atoms (64 ∷ quote realm) ≡ At ∷ map Byte realm
atoms-realm realm = ap (λ (l : List Atom). At ∷ l) (ap atoms (sym (append-nil (quote realm))) ∙ atoms-quote realm [] ∙ append-nil (map Byte realm))

-- the text of a name has these atoms
atoms-name_text : (p : Parts) (c : List ℕ) (cs : List (List ℕ)) → p.components ≡ c ∷ cs → atoms (name_text p) ≡ text_atoms c cs p.realm
atoms-name_text p c cs e =
    let text : List ℕ = 64 ∷ quote p.realm in
    ap (λ (l : List (List ℕ)). atoms (joined_components l ++ text)) e ∙ ap (λ (l : List ℕ). atoms (l ++ text)) (joined_is (c ∷ cs))
    ∙ ap atoms (append_assoc (quote c) (joined_from false cs) text) ∙ atoms-quote c (joined_from false cs ++ text)
    ∙ ap (λ (l : List Atom). map Byte c ++ l) (atoms-others cs text ∙ ap (others_atoms cs) (atoms-realm p.realm))

-- bytes before an `@` have no fault
faults_of-bytes : (bs : List ℕ) (rest : List Atom) → faults_of (map Byte bs ++ rest) ≡ faults_of rest
faults_of-bytes [] rest = refl
faults_of-bytes (b ∷ bs) rest = faults_of-bytes bs rest

-- bytes in a realm have no fault
faults-realm : (bs : List ℕ) → filter_map realm_fault (map Byte bs) ≡ []
faults-realm [] = refl
faults-realm (b ∷ bs) = faults-realm bs

-- a name's text has no fault
faults_of-others : (cs : List (List ℕ)) (realm : List ℕ) → faults_of (others_atoms cs (At ∷ map Byte realm)) ≡ []
faults_of-others [] realm = faults-realm realm
faults_of-others (c ∷ cs) realm = faults_of-bytes c (others_atoms cs (At ∷ map Byte realm)) ∙ faults_of-others cs realm

-- bytes before a `/` or an `@` are a component
split-bytes : (bs : List ℕ) (rest : List Atom) (ps : List (List Atom)) → slice_split is_slash (before_at rest) ≡ [] ∷ ps → slice_split is_slash (before_at (map Byte bs ++ rest)) ≡ map Byte bs ∷ ps
split-bytes [] rest ps e = e
split-bytes (b ∷ bs) rest ps e = ap (onto_first (Byte b)) (split-bytes bs rest ps e)

-- components, each after a `/`, are split there
split-others : (cs : List (List ℕ)) (realm : List ℕ) → slice_split is_slash (before_at (others_atoms cs (At ∷ map Byte realm))) ≡ [] ∷ map (map Byte) cs
split-others [] realm = refl
split-others (c ∷ cs) realm = ap (λ (ps : List (List Atom)). [] ∷ ps) (split-bytes c (others_atoms cs (At ∷ map Byte realm)) (map (map Byte) cs) (split-others cs realm))

-- the bytes of bytes as atoms are those bytes
bytes_again : (bs : List ℕ) → map byte_of (map Byte bs) ≡ bs
bytes_again [] = refl
bytes_again (b ∷ bs) = ap (λ (l : List ℕ). b ∷ l) (bytes_again bs)

-- the bytes of components as atoms are those components
components_again : (cs : List (List ℕ)) → map (map byte_of) (map (map Byte) cs) ≡ cs
components_again [] = refl
components_again (c ∷ cs) = ap (λ (l : List ℕ). l ∷ map (map byte_of) (map (map Byte) cs)) (bytes_again c) ∙ ap (λ (l : List (List ℕ)). c ∷ l) (components_again cs)

-- the components of a name's text
components-text : (c : List ℕ) (cs : List (List ℕ)) (realm : List ℕ) → components_of (text_atoms c cs realm) ≡ c ∷ cs
components-text c cs realm = ap (map (map byte_of)) (split-bytes c (others_atoms cs (At ∷ map Byte realm)) (map (map Byte) cs) (split-others cs realm)) ∙ components_again (c ∷ cs)

-- the realm comes after the components
after_at-others : (cs : List (List ℕ)) (realm : List ℕ) → after_at (others_atoms cs (At ∷ map Byte realm)) ≡ Some (map Byte realm)
after_at-others [] realm = refl
after_at-others (c ∷ cs) realm = after_at-plain c (others_atoms cs (At ∷ map Byte realm)) ∙ after_at-others cs realm

-- the realm of a name's text
realm-text : (c : List ℕ) (cs : List (List ℕ)) (realm : List ℕ) (d : Option (List ℕ)) → realm_of (text_atoms c cs realm) d ≡ Some realm
realm-text c cs realm d =
    rw (after_at-plain c (others_atoms cs (At ∷ map Byte realm)) ∙ after_at-others cs realm) (ap Some (bytes_again realm))

-- the text of a name with these components parses as that name
named_again : (p : Parts) (d : Option (List ℕ)) (cs : List (List ℕ)) → p.components ≡ cs → 0 < length cs → name_of (name_text p) d ≡ Ok (record p { name_type = 1 })
named_again p d [] e lt = absurd (omega arith)
named_again p d (c ∷ cs) e lt =
    let fault : first_fault (faults_of (text_atoms c cs p.realm)) ≡ None = ap first_fault (faults_of-bytes c (others_atoms cs (At ∷ map Byte p.realm)) ∙ faults_of-others cs p.realm) in
    rw (atoms-name_text p c cs e, fault, realm-text c cs p.realm d, components-text c cs p.realm ∙ sym e) refl

-- the text of a name with a component parses as that name
pub name_of-name_text : (p : Parts) (d : Option (List ℕ)) → 0 < length p.components → name_of (name_text p) d ≡ Ok (record p { name_type = 1 })
name_of-name_text p d lt = named_again p d p.components refl lt

pub ruleset round_trip = (name_of-name_text)
