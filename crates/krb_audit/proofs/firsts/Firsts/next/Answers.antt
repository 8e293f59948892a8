use Rattle.krb_audit.proofs.ForAnswers.{◌≡◌, ◌∙◌, ℕ, List, cond, Option, Some, ap, option_map, PlacedEntry, Key, looked, same_key}
use Rattle.std.specs.Option.{unwrap_or}
use Rattle.krb_audit.proofs.FirstsLemmas.{alike_here, alike_to, firsts_next, key_in}
use Rattle.krb_audit.proofs.firsts.Firsts.next.Goals as goal

pub returns : goal.returns
returns g c = λ all before firsts number.
    let x : PlacedEntry = (c.args.place, c.args.entry.now) in
    let first = c.args.first in
    let look : Key → Option (ℕ × List ℕ) = looked c.args.self.now in
    let key : Key = (record { 0 = first }, c.kvno.result, c.enctype.result) in
    let is : key ≡ key_in first x = λ i. (record { 0 = first }, c.kvno.ensures i, c.enctype.ensures i) in
    let puts : (l : Key) → looked c.consider.new.self l ≡ cond (same_key (key_in first x) l) (Some (unwrap_or (look (key_in first x)) (x.0, x.1.key))) (look l) = λ l.
    c.in_ok-consider.ensures.kept l ∙ ap (λ (m : Key). cond (same_key m l) (Some (unwrap_or (look m) (x.0, c.key.result.now))) (look l)) is
    ∙ ap (λ (s : List ℕ). cond (same_key (key_in first x) l) (Some (unwrap_or (look (key_in first x)) (x.0, s))) (look l)) c.key.ensures in (
      c.in_ok-consider.ensures.alike ∙ ap (λ (s : List ℕ). option_map (alike_to s) (look key)) c.key.ensures ∙ ap (λ (l : Key). option_map (alike_to x.1.key) (look l)) is ∙ alike_here all before x first look firsts number,
      firsts_next all before x first look (looked c.consider.new.self) firsts number puts,
    )
