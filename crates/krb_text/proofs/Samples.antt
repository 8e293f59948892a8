-- Worked samples of the definitions.
use Rattle.std.specs.Prelude.{◌≡◌, codes}
use Rattle.krb_text.proofs.Cited.{refl, day_number, flag_letters_of}
use Rattle.krb_text.proofs.OnLiterals.{krb_text_on_literals}

-- all flags that have a letter, in the order in which MIT's klist prints them
pub flags : flag_letters_of 0x7ffc8000 ≡ codes "FfPpDdiRIHATOa"
unfolding krb_text_on_literals
flags = refl

-- forwardable, renewable, initial and preauthenticated (RFC 4120)
pub initial-flags : flag_letters_of 0x40e00000 ≡ codes "FRIA"
unfolding krb_text_on_literals
initial-flags = refl

-- a year that 4 divides has a 29th of February
pub leap-day : day_number 789 ≡ record { year = 1972; month = 2; day = 29 }
unfolding day_number
leap-day = refl
