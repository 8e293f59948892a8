use Rattle.std.proofs.Common.{ap, ◌∙◌, arith, drop, subst, take-append-drop}
use Rattle.std.proofs.lemmas.Grind.{common_steps}
use Rattle.krb_wire.specs.Controls.{escaped}
use Rattle.krb_wire.specs.declared.controls.Style.TheVariants.{Terminal}
use Rattle.krb_files.specs.Bytes.{AppendsPrefix}
use Rattle.krb_files.proofs.Prefixes.{AppendsPrefix-longer}
use Rattle.krb_terminal.proofs.screen.Screen.write_escaped.Goals as goal

-- what was sent is a prefix of what the bytes that were taken make, so of what all make
pub returns-in_err-send-clause-err : goal.returns-in_err-send-clause-err
unfolding escaped
returns-in_err-send-clause-err g c =
    let n = c.min-count.result in
    let rest = drop n c.args.bytes.now in
    let whole = c.escape-holds.ensures rest ∙ ap (escaped Terminal c.self.inside.holds) (take-append-drop n c.args.bytes.now) in
    let sent = subst (AppendsPrefix (g.W.Write.contents c.self.inside.writer) (g.W.Write.contents c.send.new.writer)) whole
    (AppendsPrefix-longer _ _ _ (escaped Terminal c.escape-holds.result rest) (rw c.as_slice.ensures.value at c.in_err-send.ensures.prefix)) in
    grind (arith, common_steps, sent)
