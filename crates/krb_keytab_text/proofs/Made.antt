-- What is made of a value that is read.
use Rattle.krb_keytab_text.proofs.Cited.{arith, Result, Err, LineFault, Reads, made, LineRefusal}

-- if the value is refused, so is what is made of it
pub made_refused : {V W : Type 0} (make : V → W) (given : Result V LineFault) (e : LineRefusal) → Reads {T = V} (λ v. v) given (Err e) → Reads {T = W} (λ w. w) (made make given) (Err e)
made_refused make given e h = search arith
