-- What is written for an entry: whether it fits, how long it is, its parts, and that it is read back.
use Rattle.krb_keytab.proofs.Cited.{◌≡◌, ℕ, ◌+◌, ◌%◌, ◌^◌, ◌<◌, ◌≤◌, Bool, true, false, List, ◌++◌, length, replicate, Some, sym, ap, ◌∙◌, append_assoc, length-append, arith, ◌&&◌, is_some, w32, ltb-true, lt-ltb, KtFormat, digits, order_of, kt_principal, IsShort, is_short, name_fits, HasNameType, some_is, wide16, wide32, number_again, EntryParts, front, version_by, Spells, fits, front_of, written_form, kept_type, read_back, IsEntry, IsRecord, and_both, both_and, nat_tests}
use Rattle.krb_keytab.proofs.EntryLemmas.{entry_again}

-- ---- what fits

pub name_of_entry_fits : (f : KtFormat) (e : EntryParts) → fits f e ≡ true → name_fits f e.principal ≡ true
name_of_entry_fits f e h = (and_both (name_fits f e.principal) (is_short e.key) h).0

key_of_entry_fits : (f : KtFormat) (e : EntryParts) → fits f e ≡ true → IsShort e.key
key_of_entry_fits f e h = ltb-true (length e.key) (2 ^ 16) (and_both (name_fits f e.principal) (is_short e.key) h).1

pub fits_no : (f : KtFormat) (e : EntryParts) → false ≡ name_fits f e.principal → false ≡ fits f e
fits_no f e h = ap (λ (b : Bool). b && is_short e.key) h

pub fits_yes : (f : KtFormat) (e : EntryParts) → name_fits f e.principal ≡ true → length e.key ≤ 65535 → true ≡ fits f e
fits_yes f e h le = sym (both_and (name_fits f e.principal) (is_short e.key) h (lt-ltb (length e.key) (2 ^ 16) (omega arith)))

-- ---- how long it is

pub written_len : (f : KtFormat) (e : EntryParts) → length (written_form f e) ≡ length (kt_principal f e.principal) + 13 + length e.key
written_len f e = search (arith, length-append, wide32, wide16)

-- ---- that it is read again

same_front : (f : KtFormat) (e : EntryParts) → front f (front_of e) ≡ front f (front_of (read_back f e))
same_front f e = search arith

kept_fits : (f : KtFormat) (t : ℕ) → t < 2 ^ 32 → HasNameType f (kept_type f t)
kept_fits f t lt = search arith

version_back : (v : ℕ) (rest : List ℕ) → version_by (v % 256) (Some (v, rest)) ≡ v
version_back v rest = grind (arith, nat_tests)

pub written_spells : (f : KtFormat) (e : EntryParts) (n : ℕ) → fits f e ≡ true → IsEntry e → Spells f (read_back f e) (written_form f e ++ replicate n 0)
written_spells f e n fit is =
    let o = order_of f in
    let d5 = digits o w32 e.version in
    let z = replicate {A = ℕ} n 0 in
    let p = name_of_entry_fits f e fit in
    record {
      fields = front_of (read_back f e);
      tail = d5 ++ z;
      fit = record {
        principal = record { lengths = p; name_type = kept_fits f e.principal.name_type is.name_type };
        timestamp = is.timestamp;
        low_version = omega arith;
        enctype = is.enctype;
        key = key_of_entry_fits f e fit;
      };
      parts = append_assoc (front f (front_of e)) d5 z ∙ ap (λ (b : List ℕ). b ++ (d5 ++ z)) (same_front f e);
      entry = ap (λ (v : ℕ). record { principal = (read_back f e).principal; timestamp = e.timestamp; version = v; enctype = e.enctype; key = e.key })
          (sym (ap (version_by (e.version % 256)) (number_again o w32 (2 ^ 32) (wide32 o) e.version z is.version) ∙ version_back e.version z));
    }

pub only_written : (f : KtFormat) (e x : EntryParts) (n : ℕ) → fits f e ≡ true → IsEntry e → Spells f x (written_form f e ++ replicate n 0) → x ≡ read_back f e
only_written f e x n fit is s =
    some_is x (read_back f e) (sym (entry_again f x (written_form f e ++ replicate n 0) s) ∙ entry_again f (read_back f e) (written_form f e ++ replicate n 0) (written_spells f e n fit is))

pub written_is_record : (f : KtFormat) (e : EntryParts) → fits f e ≡ true → IsEntry e → IsRecord f (written_form f e)
written_is_record f e fit is = λ n. ap is_some (entry_again f (read_back f e) (written_form f e ++ replicate {A = ℕ} n 0) (written_spells f e n fit is))
