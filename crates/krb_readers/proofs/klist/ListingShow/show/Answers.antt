use Rattle.krb_readers.proofs.Cited.{refl, ap, ◌∙◌, Ok, Err, err_from_is_err_and, listed_text, listing_page}
use Rattle.krb_readers.proofs.Listed.{Prints-longer, Prints-then, ShowsPage-done, ShowsPage-failed, gap-some, listed_text-some}
use Rattle.krb_readers.proofs.klist.ListingShow.show.Goals as goal

pub returns : goal.returns
returns g c =
    let shown = Prints-then _ _ _ _ _ _ _ c.in_ok-show_gap.ensures c.in_ok-show_file.ensures in
    ShowsPage-done (listing_page c.args.self.now c.args.file.now) c.args.out.now c.show_file.new.out _ c.requires shown.failed shown.ok (ap Ok c.listed_verdict.ensures)

-- the output failed or memory ran out
pub returns-in_err-show_gap : goal.returns-in_err-show_gap
returns-in_err-show_gap g c =
    let p = err_from_is_err_and c.from_residual.result c.from_residual.ensures.1 in
    let l = c.args.self.now in
    let shown = Prints-longer _ _ _ (listed_text l.json c.args.file.now l.of) _ c.in_err-show_gap.ensures in
    rw (p.1 ∙ ap Err p.2) (ShowsPage-failed (Unit {0}) (listing_page l c.args.file.now) c.args.out.now c.show_gap.new.out c.in_err-show_gap.field-0.0
    refl (gap-some l.json l.is_after _ (listed_text-some l.json c.args.file.now l.of)) shown.prefix shown.failed)

pub returns-in_err-show_file : goal.returns-in_err-show_file
returns-in_err-show_file g c =
    let p = err_from_is_err_and c.from_residual-in_err-show_file.result c.from_residual-in_err-show_file.ensures.1 in
    let l = c.args.self.now in
    let shown = Prints-then _ _ _ _ _ _ _ c.in_ok-show_gap.ensures c.in_err-show_file.ensures in
    rw (p.1 ∙ ap Err p.2) (ShowsPage-failed (Unit {0}) (listing_page l c.args.file.now) c.args.out.now c.show_file.new.out c.in_err-show_file.field-0.0
    refl (gap-some l.json l.is_after _ (listed_text-some l.json c.args.file.now l.of)) shown.prefix shown.failed)
