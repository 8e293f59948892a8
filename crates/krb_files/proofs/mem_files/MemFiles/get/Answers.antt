use Rattle.krb_files.proofs.Cited.{◌≡◌, ◌<◌, ℕ, Bool, not, List, length, get_or, Some, None, refl, ap, arith, find, position, string_bytes, bytes_eq, prefix_len}
use Rattle.std.proofs.lemmas.List.Folds.{find_at}
use Rattle.std.proofs.lemmas.Option.{slice_get_read, slice_get_past}
use Rattle.krb_files.proofs.FileLists.{find-map}
use Rattle.krb_files.proofs.mem_files.MemFiles.get.Goals as goal

module _ {X : Type 0} (test : X → Bool) (xs : List X) where
  -- how many elements are before the first that passes
  abbrev before : ℕ
  before = prefix_len (λ x. not (test x)) xs

  within : (n : ℕ) → Some n ≡ position test xs → n < length xs
  within n is = grind arith

  -- the element at a position is the first that passes
  found : (n : ℕ) (x : X) → Some n ≡ position test xs → x ≡ get_or xs n x → find test xs ≡ Some x
  found n x is read =
      let at = find_at test xs in
      let got = slice_get_read xs (length xs) n x refl (within n is) read in
      grind arith

  -- without a position no element passes
  missing : None ≡ position test xs → find test xs ≡ None
  missing none =
      let at = find_at test xs in
      let past = slice_get_past xs before in
      grind arith

pub index-requires : goal.index-requires
index-requires g c =
    let is = rw c.deref.ensures.value at c.in_ok-place.ensures in
    let at = within (λ file. bytes_eq (string_bytes file.0) c.args.name.now) c.self.inside.files.items c.in_ok-place.place is in
    let ok = c.self.inside.files.ok.0 in
    omega (arith, at, ok)

pub returns : goal.returns
returns g c =
    let is = rw c.deref.ensures.value at c.in_ok-place.ensures in
    rw (← c.self.view_is, find-map, found (λ file. bytes_eq (string_bytes file.0) c.args.name.now) c.self.inside.files.items c.in_ok-place.place c.index.result.now is c.index.ensures)
    (ap Some c.deref-2.ensures.value)

pub returns-in_err-place : goal.returns-in_err-place
returns-in_err-place g c =
    let none = rw c.deref.ensures.value at c.in_err-place.ensures in
    rw (c.from_residual.ensures, ← c.self.view_is, find-map, missing (λ file. bytes_eq (string_bytes file.0) c.args.name.now) c.self.inside.files.items none) refl
