use Rattle.krb_ktutil.proofs.ktutil.state.transfer.write_to.Goals as goal

-- the keytab is to be saved
pub returns-in-Ok-add_all : goal.returns-in-Ok-add_all
returns-in-Ok-add_all g c =
    let added = rw c.in-Ok.ensures.ok at c.in-Ok-add_all.ensures.ok in
    let saving = rw (c.into_keytab.ensures, c.deref.ensures.value) at c.saving.ensures in
    λ s is. rw (rw (← is) at added) (saving s c.args.number)
