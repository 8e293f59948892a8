-- Joining what a writer took of one text with what it took of the next.
use Rattle.krb_files.proofs.Cited.{◌≡◌, ℕ, ◌≤◌, ◌+◌, ◌-◌, arith, List, [], ◌++◌, Option, refl, sym, ap, ◌∙◌, append_assoc, append-nil, length, take, drop, take-append-drop, subst, Appends, Keeps, take-add}
use Rattle.std.proofs.lemmas.Grind.{common_steps}
use Rattle.krb_files.specs.Bytes.{AppendsPrefix}

-- an unchanged writer took the empty text
pub Appends-nil : (a : Option (List ℕ)) → Appends a a []
Appends-nil a = grind (arith, append-nil)

-- two texts, written one after the other, append both
pub Appends-trans : (a b c : Option (List ℕ)) (bs cs : List ℕ) → Appends a b bs → Appends b c cs → Appends a c (bs ++ cs)
Appends-trans a b c bs cs p q = grind (arith, append_assoc)

-- a whole text and then a prefix of a second are a prefix of both
pub AppendsPrefix-after : (a b c : Option (List ℕ)) (first second : List ℕ) → Appends a b first → AppendsPrefix b c second → AppendsPrefix a c (first ++ second)
AppendsPrefix-after a b c first second p q = record {
  prefix = first ++ q.prefix;
  rest = q.rest;
  appends = Appends-trans a b c first q.prefix p q.appends;
  splits = ap (λ l. first ++ l) q.splits ∙ sym (append_assoc first q.prefix q.rest);
}

-- a prefix of a text is a prefix of a longer text
pub AppendsPrefix-longer : (a b : Option (List ℕ)) (first second : List ℕ) → AppendsPrefix a b first → AppendsPrefix a b (first ++ second)
AppendsPrefix-longer a b first second p = record {
  prefix = p.prefix;
  rest = p.rest ++ second;
  appends = p.appends;
  splits = ap (λ l. l ++ second) p.splits ∙ append_assoc p.prefix p.rest second;
}

-- a whole text is a prefix of itself
pub AppendsPrefix-all : (a b : Option (List ℕ)) (text : List ℕ) → Appends a b text → AppendsPrefix a b text
AppendsPrefix-all a b text p = record { prefix = text; rest = []; appends = p; splits = sym (append-nil text) }

-- the empty text is a prefix of every text
pub AppendsPrefix-none : (a : Option (List ℕ)) (text : List ℕ) → AppendsPrefix a a text
AppendsPrefix-none a text = record { prefix = []; rest = text; appends = Appends-nil a; splits = refl }

-- the first n bytes are a prefix
pub AppendsPrefix-take : (a b : Option (List ℕ)) (n : ℕ) (text : List ℕ) → Appends a b (take n text) → AppendsPrefix a b text
AppendsPrefix-take a b n text p = record { prefix = take n text; rest = drop n text; appends = p; splits = sym (take-append-drop n text) }

-- one more write after the first `done` bytes makes the first `done + n`
pub Appends-take-more : (a b c : Option (List ℕ)) (done n : ℕ) (bytes : List ℕ) → done ≤ length bytes → Appends a b (take done bytes)
    → Appends b c (take n (take (length bytes - done) (drop done bytes))) → Appends a c (take (done + n) bytes)
Appends-take-more a b c done n bytes le p q =
    let all : take (length bytes - done) (drop done bytes) ≡ drop done bytes = grind (arith, common_steps) in
    let joined : take done bytes ++ take n (take (length bytes - done) (drop done bytes)) ≡ take (done + n) bytes = ap (λ l. take done bytes ++ take n l) all ∙ sym (take-add done n bytes) in
    subst (Appends a c) joined (Appends-trans a b c _ _ p q)

-- a text and then nothing more append the text
pub Appends-keeps : (a b c : Option (List ℕ)) (text : List ℕ) → Appends a b text → Keeps b c → Appends a c text
Appends-keeps a b c text p q = grind arith
