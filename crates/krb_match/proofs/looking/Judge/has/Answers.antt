use Rattle.krb_match.proofs.looking.Judge.has.Goals as goal

pub returns-clause-kept : goal.returns-clause-kept
returns-clause-kept g c = λ asked wanted xs old.
    let kept = c.take_keys.ensures.kept asked wanted xs old in
    record { names_are = kept.names_are; asks_is = kept.asks_is; entries_are = kept.entries_are; keys_are = c.in_ok-keys.ensures.keys asked wanted xs old; near_is = kept.near_is; wanted_is = kept.wanted_is }

pub returns-clause-has : goal.returns-clause-has
returns-clause-has g c = λ asked wanted xs p old key. c.has-has.ensures xs p (c.in_ok-keys.ensures.keys asked wanted xs old) key
