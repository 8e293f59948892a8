-- The order of names by a number and their bytes.
use Rattle.krb_names.proofs.Cited.{◌≡◌, arith, ◌&&◌, ◌==◌, bytes_eq, HashedName, hash_of, name_cmp, nat_cmp_total, on_total, then_total, bytes_eq-Decides, eq_by_cmp, is_eq}
use Rattle.std.proofs.lemmas.Bool.Decides.{nat_tests}
use Rattle.std.proofs.lemmas.Map.Text.{is_eq-slice_cmp}
use Rattle.std.specs.Cmp.{IsTotalOrder}
use Rattle.std.specs.Cmp.Lexicographic.{on_texts}

pub names_total : IsTotalOrder name_cmp
names_total = then_total (on_total (λ x. x.0) nat_cmp_total) (on_texts (λ x. x.1.now))

-- names compare equal iff number and bytes are equal
pub names_tie : (x y : HashedName) → (x.0 == y.0 && bytes_eq x.1.now y.1.now) ≡ eq_by_cmp name_cmp x y
names_tie x y = grind (arith, nat_tests, is_eq-slice_cmp x.1.now y.1.now)

-- with their hashes, iff the bytes are
pub hashes_tie : (x y : HashedName) → x.0 ≡ hash_of x.1.now → y.0 ≡ hash_of y.1.now → is_eq (name_cmp x y) ≡ bytes_eq x.1.now y.1.now
hashes_tie x y hash hash' = grind (arith, nat_tests, hash, hash', is_eq-slice_cmp x.1.now y.1.now, bytes_eq-Decides x.1.now y.1.now)
