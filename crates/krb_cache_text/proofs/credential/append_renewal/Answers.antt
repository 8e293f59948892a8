use Rattle.krb_cache_text.proofs.Cited.{◌≡◌, List, ℕ, [], ◌∷◌, ◌++◌, codes, false, ap, ◌∙◌, append_assoc, ◌==◌, on_ok_weaker}
use Rattle.std.proofs.lemmas.Bool.{ne_eqb}
use Rattle.krb_text.specs.Calendar.{time_text_of}
use Rattle.krb_cache_text.specs.Listing.{renew_line}
use Rattle.krb_cache_text.proofs.credential.append_renewal.Goals as goal

pub returns : goal.returns
unfolding renew_line
returns g c =
    let until = codes "    renew until " in
    let time = time_text_of c.args.seconds in
    let some : (c.args.seconds == 0) ≡ false = ne_eqb c.args.seconds 0 c.if-seconds-eq0.false in
    rw some (on_ok_weaker c.append_byte.result (λ is. is ∙ ap (λ (t : List ℕ). t ++ (10 ∷ [])) (c.in_ok-append_seconds.ensures.ok ∙ ap (λ (t : List ℕ). t ++ time) c.in_ok-append.ensures.ok)
    ∙ append_assoc (c.args.out.now.items ++ until) time (10 ∷ []) ∙ append_assoc c.args.out.now.items until (time ++ (10 ∷ []))) c.append_byte.ensures.ok)
