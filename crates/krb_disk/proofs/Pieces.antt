-- A file compared piece by piece.
use Rattle.std.proofs.Common.{◌≡◌, ℕ, arith, take, Bool, List, [], ◌++◌, Option, Result, Ok, Err, IfSome, IfOk, IsTrue}
use Rattle.std.proofs.lemmas.Grind.{common_steps}
use Rattle.std.specs.Io.KnownBytes.{Consumes, IsAtEnd}
use Rattle.krb_disk.specs.Content.{WasRead}

-- if a reader returned `piece` and has `rest` left, it had both before
pub had_both : (old new : Option (List ℕ)) (piece rest bytes : List ℕ) → Consumes old new piece → bytes ≡ piece ++ rest → IfSome new (λ left. left ≡ rest) → IfSome old (λ left. left ≡ bytes)
had_both old new piece rest bytes given is has = grind arith

-- a reader that returned nothing and is at its end had no bytes left before
pub had_none : (old new : Option (List ℕ)) (given left : List ℕ) (n : ℕ) → n ≡ 0 → Consumes old new (take n given) → IsAtEnd new → left ≡ [] → IfSome old (λ had. had ≡ left)
had_none old new given left n zero consumed end empty = grind (arith, common_steps)

-- what a comparison has read, by what the file had left
pub as_read : {F E : Type 0} (remaining : F → Option (List ℕ)) (file : F) (r : Result Bool E) (Has Wanted : List ℕ → Type 0) → ((left : List ℕ) → Has left → Wanted left)
    → IfOk r (λ has. IsTrue has → IfSome (remaining file) Has) → IfOk r (λ is. IsTrue is → WasRead remaining Wanted)
as_read remaining file (Ok has) Has Wanted so read = λ yes. (file, let was = read yes in grind (arith, so))
as_read remaining file (Err e) Has Wanted so read = tt
