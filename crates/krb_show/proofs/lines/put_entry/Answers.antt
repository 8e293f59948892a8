use Rattle.krb_show.proofs.Cited.{◌∙◌, ap, sym, LineParts, line_cmp, refl}
use Rattle.std.specs.BTreeMap.{insert_entry}
use Rattle.krb_show.proofs.EntryLines.{line_is}
use Rattle.krb_show.proofs.lines.put_entry.Goals as goal

-- the map after the call is the one that `entry` borrowed, with the line that `add` left
pub returns : goal.returns
returns g c = λ begun.
    let same = c.lines-3-1.given.1 (sym c.in_ok-lines.ensures.same_map) in
    let line = line_is c.add.new.self c.or_insert.result.now _ _ c.args.entry.now _ _ _ _ c.in_ok-lines.ensures.value (rw begun at c.or_insert.ensures.value) refl refl c.in_ok-add.ensures c.timestamp-timestamp.ensures c.enctype-etype.ensures in
    rw same (c.in_ok-lines.ensures.update.1 c.add.new.self ∙ ap (λ (l : LineParts). insert_entry line_cmp c.args.lines.now.entries c.args.key l) line)
