use Rattle.krb_show.proofs.Cited.{[], ◌≡◌, ◌∷◌, ◌∙◌, ap, subst, sym, List, unwrap_or, PlacedEntry, on_ok_weaker, some_is, EntryParts, LineKey, LineParts, line_key, lines_from, placed_entries, put_entry, AreSoFar, ◌++◌, mapped_after, rank_of, Parts}
use Rattle.krb_show.proofs.EntryLines.{named}
use Rattle.krb_show.proofs.lines.SoFar.add.Goals as goal

-- the next entry is in the line with its key
pub returns : goal.returns
returns g c = λ k rest x read known.
    let all = placed_entries k in
    let e = c.in-Some.entry in
    let same : e ≡ x.1 = some_is e x.1 (sym c.in-Some.ensures.exact ∙ read) in
    let next : PlacedEntry = (x.0, e) in
    let so_far = subst (λ (y : EntryParts). AreSoFar k ((x.0, y) ∷ rest) c.args.self.now) (sym same) known in
    let before = so_far.before in
    let lines = c.args.self.now.lines.entries in
    let took = c.take-rank.ensures (rank_of all before next) (mapped_after (rank_of all) (before ++ next ∷ []) rest) so_far.ranks in
    let key : LineKey = (c.take-rank.result.first, c.take-rank.result.is_old, record { 0 = c.kvno.result }) in
    let is : key ≡ line_key all e = λ i. (unwrap_or (took.0 i).first 0, (took.0 i).is_old, record { 0 = c.kvno.ensures i }) in
    on_ok_weaker c.put_entry.result (λ put. record {
      before = before ++ next ∷ [];
      ranks = took.1;
      tally = c.in_ok-add.ensures k before rest next took.0 c.enctype.ensures so_far.tally;
      lines = ap (λ (l : List (LineKey × LineParts)). lines_from all l rest) (put ∙ ap (λ (q : LineKey). put_entry q e lines) is) ∙ so_far.lines;
    }) (c.put_entry.ensures (c.of.ensures ∙ ap (λ (p : Parts). record { principal = p; added = 0; etypes = [] }) (named c.args.format c.args.record.now e c.in-Some.ensures.exact)))
