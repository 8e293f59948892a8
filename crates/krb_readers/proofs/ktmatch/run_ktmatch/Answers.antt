use Rattle.krb_readers.proofs.Cited.{ap, TicketMatch, inl, inr, Ok, Err, refl}
use Rattle.krb_readers.proofs.ktmatch.run_ktmatch.Goals as goal

-- the keytab was not opened
pub returns-in-Err : goal.returns-in-Err
returns-in-Err g c = rw (← c.world.view_is) (record {
  given = Err (c.in-Err.met.file.now, c.in-Err.met.error);
  files = c.give.new.files;
  gives = rw (ap (λ (x : TicketMatch). x.v1_order) c.options.view_is) at c.in-Err.ensures;
  goes_on = c.end_by.ensures;
})

-- memory ran out
pub returns-in_default : goal.returns-in_default
returns-in_default g c = rw (← c.world.view_is) (record {
  given = Ok c.in-Ok.opened.state;
  files = c.give.new.files;
  gives = rw (ap (λ (x : TicketMatch). x.v1_order) c.options.view_is) at c.in-Ok.ensures;
  goes_on = inl c.end_by-in_default.ensures;
})

pub returns-in_default-of : goal.returns-in_default-of
returns-in_default-of g c = rw (← c.world.view_is) (record {
  given = Ok c.in-Ok.opened.state;
  files = c.give.new.files;
  gives = rw (ap (λ (x : TicketMatch). x.v1_order) c.options.view_is) at c.in-Ok.ensures;
  goes_on = inl c.end_by-in_default-of.ensures;
})

-- the tickets were matched
pub returns : goal.returns
returns g c = rw (← c.world.view_is) (record {
  given = Ok c.in-Ok.opened.state;
  files = c.give.new.files;
  gives = rw (ap (λ (x : TicketMatch). x.v1_order) c.options.view_is) at c.in-Ok.ensures;
  goes_on = inr (rw (c.in-Ok-of-2.ensures, c.in-Ok-of.ensures.wanted) at c.match_with.ensures refl);
})
