-- How a text passes to a writer: what was gathered, what was sent, and what a failure leaves.
use Rattle.krb_text.proofs.Cited.{◌≡◌, ℕ, true, List, [], ◌++◌, Option, Result, Ok, Err, refl, sym, ap, ◌∙◌, append_assoc, append-nil, IsFalse, on_ok_weaker, on_err_weaker, Sent, Passed, Prints, Gathers}
use Rattle.std.specs.Io.KnownBytes.{Appends}
use Rattle.krb_files.specs.declared.output.OutFault.{OutFault}
use Rattle.krb_files.specs.declared.output.OutFault.TheVariants.{Write, NoMemory}
use Rattle.krb_files.specs.Bytes.{AppendsPrefix, Watch}
use Rattle.krb_files.proofs.Prefixes.{Appends-nil, Appends-trans, AppendsPrefix-longer}

-- three pieces are gathered
pub gathered_three : (a b c d x y z : List ℕ) → b ≡ a ++ x → c ≡ b ++ y → d ≡ c ++ z → d ≡ a ++ (x ++ (y ++ z))
gathered_three a b c d x y z is_b is_c is_d =
    is_d ∙ ap (λ (t : List ℕ). t ++ z) (is_c ∙ ap (λ (t : List ℕ). t ++ y) is_b) ∙ append_assoc (a ++ x) y z ∙ append_assoc a x (y ++ z)

-- a piece is gathered, and then others
pub gathered_then : (a b c x y : List ℕ) → b ≡ a ++ x → c ≡ b ++ y → c ≡ a ++ (x ++ y)
gathered_then a b c x y is_b is_c = is_c ∙ ap (λ (t : List ℕ). t ++ y) is_b ∙ append_assoc a x y

-- nothing was sent yet
pub passed_none : (o : Option (List ℕ)) (whole rest b : List ℕ) → whole ≡ b ++ rest → Passed o o whole rest b
passed_none o whole rest b e = record { sent = []; appends = Appends-nil o; parts = e }

-- the next piece is gathered
pub passed_gather : (o p : Option (List ℕ)) (whole x rest b more : List ℕ) → Passed o p whole (x ++ rest) b → more ≡ b ++ x → Passed o p whole rest more
passed_gather o p whole x rest b more h e = record {
  sent = h.sent;
  appends = h.appends;
  parts = h.parts ∙ ap (λ (t : List ℕ). h.sent ++ t) (sym (append_assoc b x rest) ∙ ap (λ (t : List ℕ). t ++ rest) (sym e));
}

-- what is gathered is sent, or some of it
pub passed_send : (o p q : Option (List ℕ)) (whole rest b after : List ℕ) → Passed o p whole rest b → Sent p q b after → Passed o q whole rest after
passed_send o p q whole rest b after h s = record {
  sent = h.sent ++ s.sent;
  appends = Appends-trans o p q h.sent s.sent h.appends s.appends;
  parts = h.parts ∙ ap (λ (t : List ℕ). h.sent ++ (t ++ rest)) s.parts ∙ ap (λ (t : List ℕ). h.sent ++ t) (append_assoc s.sent after rest) ∙ sym (append_assoc h.sent s.sent (after ++ rest));
}

-- a last piece is gathered after a whole text
pub passed_last : (o p : Option (List ℕ)) (whole x b more : List ℕ) → Passed o p whole [] b → more ≡ b ++ x → Passed o p (whole ++ x) [] more
passed_last o p whole x b more h e = record {
  sent = h.sent;
  appends = h.appends;
  parts = ap (λ (t : List ℕ). t ++ x) (h.parts ∙ ap (λ (t : List ℕ). h.sent ++ t) (append-nil b)) ∙ append_assoc h.sent b x ∙ ap (λ (t : List ℕ). h.sent ++ t) (sym e ∙ sym (append-nil more));
}

-- what was sent is a prefix of the whole
pub passed_prefix : (o p : Option (List ℕ)) (whole rest b : List ℕ) → Passed o p whole rest b → AppendsPrefix o p whole
passed_prefix o p whole rest b h = record { prefix = h.sent; rest = b ++ rest; appends = h.appends; splits = h.parts }

-- it still is if only a prefix of what is gathered could be sent
pub passed_fail : (o p q : Option (List ℕ)) (whole rest b : List ℕ) → Passed o p whole rest b → AppendsPrefix p q b → AppendsPrefix o q whole
passed_fail o p q whole rest b h f = record {
  prefix = h.sent ++ f.prefix;
  rest = f.rest ++ rest;
  appends = Appends-trans o p q h.sent f.prefix h.appends f.appends;
  splits = h.parts ∙ ap (λ (t : List ℕ). h.sent ++ (t ++ rest)) f.splits ∙ ap (λ (t : List ℕ). h.sent ++ t) (append_assoc f.prefix f.rest rest) ∙ sym (append_assoc h.sent f.prefix (f.rest ++ rest));
}

-- in the end all that is gathered is sent
pub passed_all : (o p q : Option (List ℕ)) (whole b : List ℕ) → Passed o p whole [] b → Appends p q b → Appends o q whole
passed_all o p q whole b h s =
    let is : whole ≡ h.sent ++ b = h.parts ∙ ap (λ (t : List ℕ). h.sent ++ t) (append-nil b) in
    rw is (Appends-trans o p q h.sent b h.appends s)

-- ---- what a function does that gathers or prints

-- an allocation failed
pub gathers_memory : {T : Type 0} (o p : Watch) (before after text rest b : List ℕ) (e : OutFault) → Passed o.contents p.contents (before ++ text) rest b → IsFalse p.failed → e ≡ NoMemory → Gathers {T = T} o p before after (Err e) text
gathers_memory o p before after text rest b e h well is = record { ok = tt; prefix = passed_prefix _ _ _ _ _ h; failed = rw is well }

-- a write failed
pub gathers_write : {T : Type 0} (o : Watch) (p : Option (List ℕ)) (q : Watch) (before after text rest b : List ℕ) (e : OutFault) → Passed o.contents p (before ++ text) rest b → AppendsPrefix p q.contents b → q.failed ≡ true → e ≡ Write → Gathers {T = T} o q before after (Err e) text
gathers_write o p q before after text rest b e h f failed is = record { ok = tt; prefix = passed_fail _ _ _ _ _ _ h f; failed = rw is failed }

-- a text was gathered after a first one, and a last one is printed after both
pub gathers_prints : {T U : Type 0} (o p q : Watch) (none before after first text last : List ℕ) (v : T) (r : Result U OutFault) → none ≡ [] → before ≡ none ++ first → Gathers o p before after (Ok v) text → Prints p q r (after ++ last) → Prints o q r (first ++ (text ++ last))
gathers_prints o p q none before after first text last v r is_none is g h =
    let passed : Passed o.contents p.contents (first ++ (text ++ last)) [] (after ++ last) = rw (sym (append_assoc first text last)) (passed_last _ _ _ last after _ (rw (is, is_none) at g.ok) refl) in
    record {
      ok = on_ok_weaker r (λ sent. passed_all _ _ _ _ _ passed sent) h.ok;
      prefix = on_err_weaker r (λ sent. passed_fail _ _ _ _ _ _ passed sent) h.prefix;
      failed = h.failed;
    }

-- if gathering it fails, nothing more is printed
pub gathers_fails : {T U : Type 0} (o p : Watch) (none before after first text last : List ℕ) (e : OutFault) → none ≡ [] → before ≡ none ++ first → Gathers {T = T} o p before after (Err e) text → Prints {T = U} o p (Err e) (first ++ (text ++ last))
gathers_fails o p none before after first text last e is_none is g = record {
  ok = tt;
  prefix = rw (sym (append_assoc first text last)) (AppendsPrefix-longer _ _ _ last (rw (is, is_none) at g.prefix));
  failed = g.failed;
}
