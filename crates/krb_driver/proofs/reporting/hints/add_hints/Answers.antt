use Rattle.krb_driver.proofs.Cited.{◌≡◌, ◌≤◌, ◌∙◌, length, sym, true, le-leb, list_all, is_alike, operand_text}
use Rattle.krb_driver.proofs.reporting.hints.add_hints.Goals as goal

-- the operand has room for the name
pub returns-in-Some : goal.returns-in-Some
returns-in-Some g c =
    let is : c.as_slice.result.now ≡ operand_text c.args.file.now = c.as_slice.ensures.value ∙ c.in-Some.ensures {u = tt} in
    let few : length (operand_text c.args.file.now) ≤ 256 = rw is at c.as_slice.ensures.fits in
    let alike : list_all is_alike c.args.file.now ≡ true = sym c.are_alike.ensures ∙ c.if-not-are_alike.false in
    rw (le-leb _ 256 few, alike) (rw is at c.add_hints_for.ensures)
