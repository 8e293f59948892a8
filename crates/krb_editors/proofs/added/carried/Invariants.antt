use Rattle.krb_editors.proofs.Cited.{◌++◌, map, HaveSame, carry_by}
use Rattle.krb_editors.proofs.added.carried.Given as goal

-- the places so far, and those that are left to carry
abbrev pub invariant-loop-place : goal.invariant-loop-place
invariant-loop-place g l =
    let carry = carry_by l.before l.after l.end in
    HaveSame (l.places.keys ++ map carry l.place-iterator) (map carry l.added.keys)
