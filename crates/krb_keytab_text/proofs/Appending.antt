-- Texts that are appended one after another.
use Rattle.krb_keytab_text.proofs.Cited.{◌≡◌, ℕ, ◌≤◌, List, ◌++◌, length, Vec, Result, Ok, Err, ap, ◌∙◌, append_assoc, length-append, vec_capacity, arith, on_ok_weaker, on_err_weaker, Grew, HadNoRoom, AppendedPart}

-- a text was appended, and then more: both together are what was appended
grew_more : (old mid new x : List ℕ) → mid ≡ old ++ x → Grew mid new → Grew old new
grew_more old mid new x is h = record { more = x ++ h.more; parts = h.parts ∙ ap (λ (t : List ℕ). t ++ h.more) is ∙ append_assoc old x h.more }

-- if the second text did not fit after the first, the two together did not fit
room_more : {A : Type 0} (x y : List ℕ) (old mid : Vec ℕ A) → mid.items ≡ old.items ++ x → vec_capacity old ≤ vec_capacity mid → HadNoRoom mid y → HadNoRoom old (x ++ y)
room_more x y old mid is capacity full =
    let before = old.ok.0 in
    let now = mid.ok.0 in
    omega (arith, before, now, capacity, full, ap length is, length-append old.items x, length-append x y)

-- a text was appended, and then another
pub part_then : {A E F : Type 0} (x y : List ℕ) (old mid new : Vec ℕ A) (r : Result (Unit {0}) F) → AppendedPart {E = E} x old mid (Ok tt) → AppendedPart y mid new r → AppendedPart (x ++ y) old new r
part_then x y old mid new r first second = record {
  ok = on_ok_weaker r (λ is. is ∙ ap (λ (t : List ℕ). t ++ y) first.ok ∙ append_assoc old.items x y) second.ok;
  err = on_err_weaker r (grew_more old.items mid.items new.items x first.ok) second.err;
  capacity = (let before = first.capacity in let after = second.capacity in omega (arith, before, after));
  full = on_err_weaker r (room_more x y old mid first.ok first.capacity) second.full;
}

-- an allocation failed for the first of two texts
pub part_fails : {A E F : Type 0} (x y : List ℕ) (old new : Vec ℕ A) (e : E) (f : F) → AppendedPart x old new (Err e) → AppendedPart (x ++ y) old new (Err f)
part_fails x y old new e f h = record {
  ok = tt;
  err = h.err;
  capacity = h.capacity;
  full = (let full = h.full in omega (arith, full, length-append x y));
}
