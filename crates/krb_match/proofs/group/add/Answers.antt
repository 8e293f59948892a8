use Rattle.krb_match.proofs.ForAnswers.{◌≡◌, ◌∙◌, sym, ap, ℕ, ◌==◌, length, List, Option, unwrap_or, get, Group, group_cmp, group_in, is_first_in, firsts_before, group_added}
use Rattle.krb_match.proofs.group.add.Goals as goal

-- the map after the call is the one that `entry` borrowed
pub returns : goal.returns
returns g c =
    let same = c.groups-3-1.given.1 (sym c.in_ok-groups.ensures.same_map) in
    let start = c.or_insert-group.result.now in
    let fresh : Group g.row.A.Denot = record { newest = c.of-newest.result; firsts = c.new-firsts.result } in
    let begun = c.or_insert-group.ensures.value ∙ ap (λ (o : Option (Group g.row.A.Denot)). unwrap_or o fresh) c.in_ok-groups.ensures.value in
    let before = c.as_slice.ensures.value ∙ firsts_before (get group_cmp c.args.groups.now c.args.key) fresh start begun c.new-firsts.ensures.items in
    let new : c.unwrap_or-new.result ≡ is_first_in c.args.is_first (group_in c.args.groups.now c.args.key) = c.unwrap_or-new.ensures ∙ ap (unwrap_or c.args.is_first) (c.is_empty.ensures ∙ ap (λ (fs : List (ℕ × ℕ)). length fs == 0) before) in
    let added = group_added c.args.groups.now c.args.key (c.args.place, c.args.entry.now) c.args.is_first c.unwrap_or-new.result fresh start c.push.new.self same (c.in_ok-groups.ensures.update.0 c.push.new.self) begun c.of-newest.ensures c.new-firsts.ensures.items c.in_ok-push.ensures new in
    record { is_first = new; added = added }
