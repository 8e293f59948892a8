use Rattle.krb_match.proofs.Cited.{◌≡◌, sym, refl, subst, List, PlacedEntry, judged_among, named, Opens}
use Rattle.krb_match.proofs.looking.Judge.judge_read.Goals as goal

pub returns-in-Some-clause-said : goal.returns-in-Some-clause-said
returns-in-Some-clause-said g c = λ asked wanted xs p old key.
    sym (subst (λ (xs : List PlacedEntry). judged_among c.args.encryption (named p xs) ≡ Opens c.in-Some.place) old.entries_are (c.in-Some.ensures p c.in-Some.place key refl))

pub returns-clause-kept : goal.returns-clause-kept
returns-clause-kept g c = λ asked wanted xs old.
    let kept = c.take_keys.ensures.kept asked wanted xs old in
    record { names_are = kept.names_are; asks_is = kept.asks_is; entries_are = kept.entries_are; keys_are = c.in_ok-keys.ensures.keys asked wanted xs old; near_is = kept.near_is; wanted_is = kept.wanted_is }

pub returns-clause-said : goal.returns-clause-said
returns-clause-said g c = λ asked wanted xs p old key. c.judge-judgement.ensures xs p (c.in_ok-keys.ensures.keys asked wanted xs old) key
