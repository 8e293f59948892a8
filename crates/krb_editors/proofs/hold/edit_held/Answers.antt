use Rattle.krb_editors.proofs.Cited.{refl, Ok, Err}
use Rattle.krb_editors.proofs.hold.edit_held.Goals as goal

-- the hold is good: the image went out
pub returns-in-Ok-check_hold : goal.returns-in-Ok-check_hold
returns-in-Ok-check_hold g c = record {
  held = c.hold_if.new.files;
  holds = c.hold_if.ensures.held;
  loaded = c.give.new.files;
  given = Ok c.in-Ok.loaded.items;
  gives = c.in-Ok.ensures;
  after = (c.check_hold.new.files, (Ok tt, (c.in-Ok-check_hold.ensures, rw c.deref.ensures.value at c.exchange.ensures)));
}

-- it is not
pub returns : goal.returns
returns g c =
    let met = c.in-Err-check_hold.met in
    record {
      held = c.hold_if.new.files;
      holds = c.hold_if.ensures.held;
      loaded = c.give.new.files;
      given = Ok c.in-Ok.loaded.items;
      gives = c.in-Ok.ensures;
      after = (c.check_hold.new.files, (Err (met.file.now, met.error), (c.in-Err-check_hold.ensures, (refl, refl))));
    }
