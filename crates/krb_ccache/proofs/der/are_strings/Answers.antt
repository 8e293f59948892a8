use Rattle.krb_ccache.proofs.Cited.{◌≡◌, ℕ, ◌<◌, ◌-◌, ◌+◌, ◌==◌, List, ◌∷◌, length, Option, None, Some, false, is_some, refl, sym, ap, arith, ◌∙◌, ◌>>=◌}
use Rattle.std.specs.Prelude.{suc}
use Rattle.krb_ccache.specs.Der.{element_at, strings_in, strings_within}
use Rattle.krb_ccache.proofs.der.are_strings.Goals as goal

after_one : (first : List ℕ) (others : Option (List (List ℕ))) → is_some (others >>= λ xs. Some (first ∷ xs)) ≡ is_some others
after_one first None = refl
after_one first (Some xs) = refl

-- after a string the rest are strings iff all are
after_string : (end i : ℕ) (bytes first after : List ℕ) → i < end → (length bytes == 0) ≡ false → element_at 27 bytes ≡ Some (first, after)
    → is_some (strings_within (end - (i + 1)) after) ≡ is_some (strings_within (end - i) bytes)
after_string end i bytes first after more some e =
    let n : end - i ≡ suc (end - (i + 1)) = omega arith in
    rw (n, some, e, after_one first (strings_within (end - (i + 1)) after)) refl

pub strings-init : goal.strings-init
unfolding strings_in
strings-init c =
    let all : length c.args.bytes.now - 0 ≡ length c.args.bytes.now = omega arith in
    ap (λ n. is_some (strings_within n c.args.bytes.now)) all

pub strings-preserved : goal.strings-preserved
strings-preserved c = after_string _ c.strings.counter c.strings.rest.now c.in-Some.field-0-0.now c.in-Some.after.now c.strings-test.true (sym c.is_empty.ensures ∙ c.if-is_empty.false) c.in-Some.ensures ∙ c.strings.invariant
