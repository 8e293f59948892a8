use Rattle.krb_ktutil.proofs.Cited.{◌≡◌, ℕ, Result, Ok, Err, arith, err_from_is_err_and, LineFault, Awaited, after, LineRefusal, Reads}
use Rattle.krb_wire.specs.Spelling.{Parts}
use Rattle.krb_ktutil.proofs.ktutil.options.addition_of.Goals as goal

-- if the name is refused, so is the addition
refused : (version enctype : Result ℕ LineFault) (name : Result Parts LineFault) (v t : ℕ) (e : LineRefusal) → Ok v ≡ version → Ok t ≡ enctype → Reads {T = Parts} (λ p. p) name (Err e)
    → Reads {T = Awaited} (λ x. x) (after (λ v. after (λ t. after (λ p. Ok (record { principal = p; version = v; enctype = t })) name) enctype) version) (Err e)
refused version enctype name v t e is_v is_t h = grind arith

pub returns-in_err-principal : goal.returns-in_err-principal
returns-in_err-principal g c =
    let p = err_from_is_err_and c.from_residual-in_err-principal.result c.from_residual-in_err-principal.ensures.1 in
    rw (p.1, p.2) (refused _ _ _ c.in_ok-kvno.kvno c.in_ok-enctype.enctype c.in_err-principal.field-0.0 c.in_ok-kvno.ensures c.in_ok-enctype.ensures c.in_err-principal.ensures)
