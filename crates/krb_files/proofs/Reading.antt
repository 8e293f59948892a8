-- Joining the bytes of one read with those of the next.
use Rattle.std.proofs.lemmas.Grind.{common_steps}
use Rattle.krb_files.proofs.Cited.{◌≡◌, ℕ, ◌+◌, Bool, cond, arith, List, ◌++◌, take, drop, Option, append_assoc, length, Consumes, take-add}

-- two reads, one after the other, consume the bytes of both
pub Consumes-trans : (a b c : Option (List ℕ)) (bs cs : List ℕ) → Consumes a b bs → Consumes b c cs → Consumes a c (bs ++ cs)
Consumes-trans a b c bs cs p q = grind (arith, append_assoc)

-- bytes extended by zeros have the old bytes as a prefix
grown_front : (old zeros : List ℕ) (filled most : ℕ) (grown : Bool) → filled ≡ length old → take filled (cond grown (take (filled + most) old ++ zeros) old) ≡ old
grown_front old zeros filled most grown is = grind (arith, common_steps)

-- bytes extended by zeros, read into there and truncated after what was read, are the old bytes and those read
pub read_after : (old zeros grown read : List ℕ) (filled most count : ℕ) (ok : Bool) → filled ≡ length old → grown ≡ cond ok (take (filled + most) old ++ zeros) old → take filled read ≡ take filled grown
    → take (filled + count) read ≡ old ++ take count (drop filled read)
read_after old zeros grown read filled most count ok is resized front =
    let cut = take-add filled count read in
    let kept = grown_front old zeros filled most ok is in
    grind arith

-- the first n elements of an append are the first list, if that has length n
pub written_back : (n : ℕ) (xs ys : List ℕ) → n ≡ length xs → take n (xs ++ ys) ≡ xs
written_back n xs ys is = grind (arith, common_steps)
