use Rattle.krb_audit.proofs.ForAnswers.{◌≡◌, ◌∙◌, ◌&&◌, ◌∷◌, List, Bool, sym, subst, PlacedEntry, placed_entries, AreVersions, has_selected_kvno, is_named, IsOnTheWay, one_further}
use Rattle.krb_audit.specs.Before.{AreDoubles}
use Rattle.krb_audit.specs.Selection.{is_selected, is_same_if}
use Rattle.krb_audit.proofs.selection.take_selected.Goals as goal

-- the next entry was taken if it is selected
pub entries-preserved : goal.entries-preserved
entries-preserved g c =
    let s = c.args.selection.now in
    let all = placed_entries c.args.keytab.now.state in
    let named : PlacedEntry → Bool = λ x. is_named s x.1 in
    let test = is_selected s c.args.now all in
    let has_taken = g.T.Taker.HasTaken c.args.label.now in
    let rest = c.next.new.self in
    let x : PlacedEntry = (c.in-Some.place, c.in-Some.entry) in
    let h = c.entries.invariant in
    let versions = subst (λ (xs : List PlacedEntry). AreVersions s.kvno c.args.now all xs c.entries.versions) c.in-Some.ensures.steps h.versions in
    let version = c.next-has_kvno.ensures s.kvno c.args.now all rest x versions (sym c.kvno.ensures) in
    let on = subst (λ (xs : List PlacedEntry). IsOnTheWay has_taken (λ seen. AreDoubles s.only_same all seen xs c.entries.doubles) test named all xs c.entries.is_any_named c.entries.taker) c.in-Some.ensures.steps h.taken in
    let same = c.in_ok-is_same.ensures s.only_same all on.seen rest on.doubles in
    let tests : (named x && (has_selected_kvno s.kvno c.args.now all x.1 && is_same_if s.only_same on.seen x)) ≡ (named x && (c.next-has_kvno.result && c.in_ok-is_same.is_same)) = λ i. named x && (sym version.0 i && sym same.0 i) in
    record {
      names = c.in_ok-is_named.ensures.kept ∙ h.names;
      versions = version.1;
      taken = one_further has_taken (λ seen. AreDoubles s.only_same all seen (x ∷ rest) c.entries.doubles) (λ seen. AreDoubles s.only_same all seen rest c.next-in-entries.new.self) test named all rest x c.entries.is_any_named c.in_ok-is_named.is_named c.entries.taker c.take_if.new.taker on (c.next-has_kvno.result && c.in_ok-is_same.is_same) same.1 tests (c.in_ok-is_named.ensures.named h.names) c.in_ok-take_if.ensures;
    }
