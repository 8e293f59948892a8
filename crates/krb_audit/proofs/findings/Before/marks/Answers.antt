use Rattle.krb_audit.proofs.ForAnswers.{◌≡◌, Some, ap, sym, ◌∙◌, ◌∷◌, [], append_assoc, ◌&&◌, ◌||◌, not, list_any, option_map, PlacedEntry, placed_entries, ◌++◌, ends_mit, first_number, mapped_after, rank_of, RankParts, ap₂, clashes, first_alike, is_aged, repeats, with_if, Alike, ended_here}
use Rattle.std.specs.Prelude.{Bool}
use Rattle.krb_text.specs.Etype.{is_weak}
use Rattle.krb_findings.specs.declared.finding.Finding.TheVariants.{Weak, Size, Hidden, Same, Clash, Old, Aged, Nostrong, Unwanted}
use Rattle.krb_audit.proofs.findings.Before.marks.Goals as goal

pub returns : goal.returns
returns g c = λ k before rest known.
    let all = placed_entries k in
    let x : PlacedEntry = (c.args.place, c.args.entry.now) in
    let old = c.args.self.now in
    let asked = c.args.asked.now in
    let rank = c.take-rank.result in
    let first = rank.first in
    let next = c.take-rank.ensures (rank_of all before x) (mapped_after (rank_of all) (before ++ x ∷ []) rest) known.ranks in
    let number : first_number x.1.principal all ≡ Some first = sym (ap (λ (r : RankParts). r.first) next.0) in
    let marked = ap (λ (r : RankParts). r.is_old) next.0 in
    let wants = c.in_ok-is_wanted.ensures asked.wanted before x.0 known.missing in
    let hidden : (c.ends_mit-ends.result && not old.has_ended) ≡ (ends_mit x.1 && not (list_any (λ y. ends_mit y.1) before)) =
    ap (λ (b : Bool). b && not old.has_ended) c.ends_mit-ends.ensures ∙ ap (λ (b : Bool). ends_mit x.1 && not b) known.has_ended in
    let next_first = c.in_ok-alike.ensures all before known.firsts number in
    let alike : c.in_ok-alike.alike ≡ first_alike before x = next_first.0 in
    let with_weak = c.with_if.ensures ∙ ap₂ (λ b s. with_if b Weak s) (c.is_weak.ensures ∙ ap is_weak c.enctype-etype.ensures) c.none.ensures in
    let with_size = c.with_if-2.ensures ∙ ap₂ (λ b s. with_if b Size s) c.has_odd_size.ensures with_weak in
    let with_hidden = c.with_if-3.ensures ∙ ap₂ (λ b s. with_if b Hidden s) hidden with_size in
    let with_same = c.with_if-4.ensures ∙ ap₂ (λ b s. with_if b Same s) (c.repeats.ensures ∙ ap repeats alike) with_hidden in
    let with_clash = c.with_if-5.ensures ∙ ap₂ (λ b s. with_if b Clash s) (c.clashes.ensures ∙ ap clashes alike) with_same in
    let with_old = c.with_if-6.ensures ∙ ap₂ (λ b s. with_if b Old s) marked with_clash in
    let with_aged = c.with_if-7.ensures ∙ ap₂ (λ b s. with_if b Aged s) (c.is_aged.ensures ∙ (λ i. not (marked i) && is_aged (c.asked.view_is i).aged_by x.1)) with_old in
    let with_nostrong = c.with_if-8.ensures ∙ ap₂ (λ b s. with_if b Nostrong s) (ap (λ (r : RankParts). r.is_first && r.lacks_strong) next.0) with_aged in
    let with_unwanted = c.with_if-9.ensures ∙ ap₂ (λ b s. with_if b Unwanted s) (λ i. (c.asked.view_is i).only && ((next.0 i).is_first && not (wants.0 i))) with_nostrong in (
      λ i. record { findings = with_unwanted i; first = (c.place_of.ensures ∙ ap (option_map (λ (first : Alike). first.place)) alike) i; newest = (next.0 i).newest },
      record {
        all = known.all ∙ sym (append_assoc before (x ∷ []) rest);
        ranks = next.1;
        missing = wants.1;
        firsts = next_first.1;
        has_ended = ap (λ (b : Bool). old.has_ended || b) c.ends_mit-ends.ensures ∙ ended_here before x old.has_ended known.has_ended;
        weak_etypes = c.add_weak.ensures before x known.weak_etypes c.enctype-etype.ensures;
      },
    )
