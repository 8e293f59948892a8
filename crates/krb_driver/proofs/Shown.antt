-- What is shown of a run, and a text on its way to the error output.
use Rattle.krb_driver.proofs.Cited.{◌≡◌, ℕ, List, [], ◌++◌, refl, sym, subst, inl, ◌∙◌, arith, true≢false, Watch, ShowsEnd, ready_end, Page, Run, Shows, Writes, ends_by, ◌+◌, add-one, ◌<◌, ◌∷◌, Option, ap, append_assoc, append-nil, length, get_or, take, map-id, flat_map, range_with_len, false≢true, AppendsPrefix, Adds, Sends, Underway, Ending, end_status, ending_status, None, IsTrue, Result, Ok, Err, OnOk, OnErr, is_err, IsFalse, map-range_with_len_more}
use Rattle.krb_files.proofs.Prefixes.{AppendsPrefix-none, Appends-nil, Appends-trans, AppendsPrefix-all, AppendsPrefix-after}
use Rattle.krb_driver.specs.declared.command.FileError.{FileError}
use Rattle.krb_driver.specs.declared.command.Ready.{Ready}
use Rattle.krb_driver.specs.declared.command.Ready.TheVariants as ready
use Rattle.krb_driver.specs.declared.error.RunError.TheVariants.{OutputNotWritten}
use Rattle.krb_files.specs.declared.aftermath.Aftermath.{Aftermath}
use Rattle.std.proofs.Math.Seq.{take-suc}
use Rattle.std.proofs.lemmas.Grind.{flat_map-append}
use Rattle.std.specs.Io.KnownBytes.{Appends}

-- once an output has failed, nothing more is shown
module _ (out : Watch) (failed : IsTrue out.failed) where
  pub unshown : (due : Run) → Shows due out out (Err OutputNotWritten)
  unshown due = record { done = λ well. absurd (true≢false (sym failed ∙ well)); prefix = AppendsPrefix-none out.contents due.out; failed = λ _. refl; still = λ _. refl }

  pub unshown_end : {A S : Type 0} (page : S → List ℕ → Page) (file : List ℕ) (end : Result (Ready A S) FileError) → ShowsEnd out out (Err OutputNotWritten) (ready_end page file end)
  unshown_end page file (Ok (ready.Shows shown)) = inl (unshown (record { out = (page shown file).out; ending = (page shown file).ending }))
  unshown_end page file (Ok (ready.Prints shown)) = inl (unshown (record { out = shown.text.items; ending = Ok shown.verdict }))
  unshown_end page file (Err met) = unshown (ends_by met.error)

-- nothing was to be written
pub Writes-nothing : (w : Watch) → Writes w w []
Writes-nothing w = record { prefix = AppendsPrefix-none w.contents []; whole = λ _. Appends-nil w.contents }

-- the exit status of a run whose save left nothing behind to report
pub end_status-none : (ending : Ending) (aftermath : Option Aftermath) → aftermath ≡ None → ending_status ending ≡ end_status ending aftermath
end_status-none ending aftermath none = grind (arith, none)

-- ---- a text on its way to the error output, piece by piece

-- nothing is on its way
underway-none : (err : Watch) → Underway err.contents err [] []
underway-none err = record { whole = λ _. record { sent = []; appends = Appends-nil err.contents; parts = refl }; prefix = AppendsPrefix-none err.contents [] }

-- nothing was added
pub Adds-none : (err : Watch) (g : List ℕ) → Adds err g err g []
Adds-none err g = λ start before u. subst (Underway start err g) (sym (append-nil before)) u

-- one text was added, and then another
pub adds_then : (a b c : Watch) (g h k first second : List ℕ) → Adds a g b h first → Adds b h c k second → Adds a g c k (first ++ second)
adds_then a b c g h k first second p q = λ start before u. subst (Underway start c k) (append_assoc before first second) (q start (before ++ first) (p start before u))

-- the next piece was added
pub adds_piece : {X : Type 0} (piece : X → List ℕ) (xs : List X) (i : ℕ) (d : X) (a b c : Watch) (g h k : List ℕ) → i < length xs
    → Adds a g b h (flat_map piece (take i xs)) → Adds b h c k (piece (get_or xs i d)) → Adds a g c k (flat_map piece (take (i + 1) xs))
adds_piece piece xs i d a b c g h k lt p q =
    let whole = ap (λ n. flat_map piece (take n xs)) (add-one i) ∙ ap (flat_map piece) (take-suc xs i d lt) ∙ flat_map-append piece (take i xs) (get_or xs i d ∷ [])
    ∙ ap (λ l. flat_map piece (take i xs) ++ l) (append-nil (piece (get_or xs i d))) in
    subst (Adds a g c k) (sym whole) (adds_then a b c g h k _ _ p q)

-- the piece of the next number was added
pub adds_number : (piece : ℕ → List ℕ) (n : ℕ) (a b c : Watch) (g h k : List ℕ)
    → Adds a g b h (flat_map piece (range_with_len 0 n)) → Adds b h c k (piece n) → Adds a g c k (flat_map piece (range_with_len 0 (n + 1)))
adds_number piece n a b c g h k p q =
    let next : range_with_len 0 (n + 1) ≡ range_with_len 0 n ++ n ∷ [] =
    sym (map-id (range_with_len 0 (n + 1))) ∙ map-range_with_len_more (λ m. m) 0 n n (omega arith) ∙ ap (λ l. l ++ n ∷ []) (map-id (range_with_len 0 n)) in
    let whole = ap (flat_map piece) next ∙ flat_map-append piece (range_with_len 0 n) (n ∷ []) ∙ ap (λ l. flat_map piece (range_with_len 0 n) ++ l) (append-nil (piece n)) in
    subst (Adds a g c k) (sym whole) (adds_then a b c g h k _ _ p q)

-- all that was gathered before was written
sent-all : (start : Option (List ℕ)) (err mid : Watch) (g before : List ℕ) → IsFalse err.failed → Underway start err g before → Appends err.contents mid.contents g → Appends start mid.contents before
sent-all start err mid g before well u p =
    let s = u.whole well in
    subst (Appends start mid.contents) (sym s.parts) (Appends-trans start err.contents mid.contents s.sent g s.appends p)

-- or a prefix of it was
sent-prefix : (start : Option (List ℕ)) (err mid : Watch) (g before : List ℕ) → IsFalse err.failed → Underway start err g before → AppendsPrefix err.contents mid.contents g → AppendsPrefix start mid.contents before
sent-prefix start err mid g before well u p =
    let s = u.whole well in
    subst (AppendsPrefix start mid.contents) (sym s.parts) (AppendsPrefix-after start err.contents mid.contents s.sent g s.appends p)

-- what was gathered was written, and then the text
pub adds_sent : {T E : Type 0} (err mid new : Watch) (g after text : List ℕ) (put : Result T E) → IsFalse err.failed → Appends err.contents mid.contents g
    → OnOk put (Appends mid.contents new.contents text) → OnErr put (AppendsPrefix mid.contents new.contents text) → new.failed ≡ is_err put → after ≡ [] → Adds err g new after text
adds_sent err mid new g after text (Ok x) well p all prefix failed none = λ start before u.
    let whole = Appends-trans start mid.contents new.contents before text (sent-all start err mid g before well u p) all in
    record {
      whole = λ _. record { sent = before ++ text; appends = whole; parts = sym (append-nil (before ++ text)) ∙ ap (λ l. (before ++ text) ++ l) (sym none) };
      prefix = AppendsPrefix-all start new.contents (before ++ text) whole;
    }
adds_sent err mid new g after text (Err e) well p all prefix failed none = λ start before u. record {
  whole = λ well'. absurd (false≢true (sym well' ∙ failed));
  prefix = AppendsPrefix-after start mid.contents new.contents before text (sent-all start err mid g before well u p) prefix;
}

-- what is gathered was written
pub sends_put : {T E : Type 0} (err new : Watch) (g : List ℕ) (put : Result T E) → IsFalse err.failed → OnOk put (Appends err.contents new.contents g) → OnErr put (AppendsPrefix err.contents new.contents g)
    → new.failed ≡ is_err put → Sends err g new
sends_put err new g (Ok x) well all prefix failed = λ start text u.
    let whole = sent-all start.contents err new g text well u all in
    record { prefix = AppendsPrefix-all start.contents new.contents text whole; whole = λ _. whole }
sends_put err new g (Err e) well all prefix failed = λ start text u. record {
  prefix = sent-prefix start.contents err new g text well u prefix;
  whole = λ well'. absurd (false≢true (sym well' ∙ failed));
}

-- a text was added and sent
pub writes_one : (a b new : Watch) (g text : List ℕ) → Adds a [] b g text → Sends b g new → Writes a new text
writes_one a b new g text p sends = sends a text (p a.contents [] (underway-none a))

-- two texts were added and sent
pub Writes-two : (a b c new : Watch) (g h first second : List ℕ) → Adds a [] b g first → Adds b g c h second → Sends c h new → Writes a new (first ++ second)
Writes-two a b c new g h first second p q sends = writes_one a c new h (first ++ second) (adds_then a b c [] g h first second p q) sends
