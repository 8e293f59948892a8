use Rattle.krb_driver.proofs.Cited.{◌∙◌, made_effect, ready_end}
use Rattle.krb_driver.proofs.command.finish.Goals as goal

pub returns-clause-finishes : goal.returns-clause-finishes
returns-clause-finishes g c = record {
  left = ready_end g.S.Show.page c.args.file.now c.settle-ready.result;
  done = c.settle-ready.new.files;
  settles = c.settle-ready.ensures g.S.Show.page;
  released = c.release.ensures;
  shown = c.show_ready-ending.ensures;
  details = c.details_to_report-details.result;
  reported = rw (c.as_bytes.ensures.value ∙ c.about-named.ensures g.S.Show.page) at c.report-status.ensures;
  left_behind = rw c.details_of-details.ensures.left at (c.details_to_report-details.ensures (made_effect g.S.Show.page c.args.file.now c.args.made) (c.is_save-saves.ensures g.S.Show.page c.args.file.now));
  honest = c.details_of-details.ensures.honest;
}
