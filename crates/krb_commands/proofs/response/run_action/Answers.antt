use Rattle.krb_commands.proofs.response.run_action.Goals as goal

pub returns-in-Ktfind : goal.returns-in-Ktfind
returns-in-Ktfind g c = rw c.in-Ktfind.is c.run_ktfind.ensures
