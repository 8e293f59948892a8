use Rattle.krb_cells.proofs.Cited.{List, ℕ, ◌∙◌, arith, between}
use Rattle.krb_cells.proofs.Cuts.{sound_by}
use Rattle.krb_cells.proofs.NewPlaces.{all_go}
use Rattle.krb_cells.proofs.carry.carry_to.Goals as goal

pub returns : goal.returns
returns g c =
    let e = c.give_places-last.ensures in
    let bytes : List ℕ = between c.args.first c.args.end c.args.image.now in
    let cs = g.F.CellFormat.cells c.args.front bytes in
    c.carry_all.ensures ∙ all_go c.give_places-last.new.image cs c.args.new c.args.first c.args.end c.give_places-last.result c.args.cursors.now e.given e.end e.last (omega (arith, c.end.ensures.end, c.end.ensures.small))
    (sound_by (g.F.CellFormat.cells c.args.front) bytes cs c.requires.cells) c.requires.rewrites c.requires.places
