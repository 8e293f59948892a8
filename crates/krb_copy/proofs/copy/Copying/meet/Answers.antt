use Rattle.krb_copy.proofs.ForAnswers.{true, ◌++◌, ◌∷◌, [], List, ℕ, refl, sym, ap, ◌∙◌, PlacedEntry, run_after, clash_line, copied_lines, err_from_is_err_and, One, after_clash, after_copy, after_there, met, step_is, copied_run, refused_run}
use Rattle.krb_copy.proofs.copy.Copying.meet.Goals as goal

pub returns-in_err-place-in-Copy-clause-meets : goal.returns-in_err-place-in-Copy-clause-meets
returns-in_err-place-in-Copy-clause-meets g c = λ run asked s.
    let x : PlacedEntry = (c.args.place, c.args.entry.now) in
    let name = c.next.ensures x asked s.names in
    let m = met run.before run.held x.1 c.class_key-kind.result c.args.self.now.classes c.or_insert-class.result.now s.classes (c.class_key-kind.ensures name.0) c.in_ok-self.ensures.value c.or_insert-class.ensures.value in
    let step = c.in-Copy.ensures ∙ step_is c.args.self.now.replace c.args.key.now m c.requires in
    let p = err_from_is_err_and c.from_residual-in_err-place-in-Copy.result c.from_residual-in_err-place-in-Copy.ensures.1 in
    rw (p.1, p.2) (refused_run run x asked c.args.self.now.replace c.in-Copy.places.now c.args.self.now.making.keytab.state c.args.self.now.making.text.items c.in_err-place-in-Copy.field-0.0
    (record { making = c.copy.new.self; classes = _; names = c.next.new.self; replace = c.args.self.now.replace }) s.keytab s.text step c.in_err-place-in-Copy.ensures.refused (c.copy.ensures.clash ∙ s.clashes))

pub returns-in-There-clause-meets : goal.returns-in-There-clause-meets
returns-in-There-clause-meets g c = λ run asked s.
    let x : PlacedEntry = (c.args.place, c.args.entry.now) in
    let name = c.next.ensures x asked s.names in
    let m = met run.before run.held x.1 c.class_key-kind.result c.args.self.now.classes c.or_insert-class.result.now s.classes (c.class_key-kind.ensures name.0) c.in_ok-self.ensures.value c.or_insert-class.ensures.value in
    let step = c.in-There.ensures ∙ step_is c.args.self.now.replace c.args.key.now m c.requires in
    let same = c.self-in-There-2-1.given.1 (sym c.in_ok-self.ensures.same_map) in
    let keep = c.keep.ensures in (
      record run { before = run.before ++ x.1 ∷ [] },
      ap (run_after run x) (sym step),
      record {
        keytab = s.keytab;
        text = s.text;
        clashes = s.clashes;
        places = s.places;
        names = name.1;
        classes = after_there c.keep.new.self m same (c.in_ok-self.ensures.update.0 c.keep.new.self) c.args.self.now.replace step keep.places keep.keys keep.stays;
      },
    )

pub returns-in_ok-clash-in-Clash-clause-meets : goal.returns-in_ok-clash-in-Clash-clause-meets
returns-in_ok-clash-in-Clash-clause-meets g c = λ run asked s.
    let x : PlacedEntry = (c.args.place, c.args.entry.now) in
    let name = c.next.ensures x asked s.names in
    let m = met run.before run.held x.1 c.class_key-kind.result c.args.self.now.classes c.or_insert-class.result.now s.classes (c.class_key-kind.ensures name.0) c.in_ok-self.ensures.value c.or_insert-class.ensures.value in
    let step = c.in-Clash.ensures ∙ step_is c.args.self.now.replace c.args.key.now m c.requires in
    let same = c.self-in-Clash-2-1.given.1 (sym c.in_ok-self.ensures.same_map) in (
      record run { before = run.before ++ x.1 ∷ []; text = run.text ++ clash_line x c.in-Clash.twin; clashes = run.clashes ++ clash_line x c.in-Clash.twin },
      ap (run_after run x) (sym step),
      record {
        keytab = ap (λ k. k.state) c.clash.ensures.keytab ∙ s.keytab;
        text = c.in_ok-clash-in-Clash.ensures.text ∙ ap (λ (t : List ℕ). t ++ clash_line x c.in-Clash.twin) s.text;
        clashes = c.in_ok-clash-in-Clash.ensures.clashes ∙ ap (λ (t : List ℕ). t ++ clash_line x c.in-Clash.twin) s.clashes;
        places = c.clash.ensures.places ∙ s.places;
        classes = after_clash c.or_insert-class.result.now m same (c.in_ok-self.ensures.update.0 c.or_insert-class.result.now) c.args.self.now.replace c.in-Clash.twin refl step;
        names = name.1;
      },
    )

pub returns-in_ok-place-in-Copy-clause-meets : goal.returns-in_ok-place-in-Copy-clause-meets
returns-in_ok-place-in-Copy-clause-meets g c = λ run asked s.
    let x : PlacedEntry = (c.args.place, c.args.entry.now) in
    let name = c.next.ensures x asked s.names in
    let m = met run.before run.held x.1 c.class_key-kind.result c.args.self.now.classes c.or_insert-class.result.now s.classes (c.class_key-kind.ensures name.0) c.in_ok-self.ensures.value c.or_insert-class.ensures.value in
    let step = c.in-Copy.ensures ∙ step_is c.args.self.now.replace c.args.key.now m c.requires in
    let same = c.self-in-Copy-2-1.given.1 (sym c.in_ok-self.ensures.same_map) in
    let kept = One c.in_ok-place-in-Copy.place c.args.key true in
    copied_run run x asked c.args.self.now.replace c.in-Copy.places.now c.in_ok-place-in-Copy.place c.args.self.now.making.keytab.state
    (record { making = c.copy.new.self; classes = _; names = c.next.new.self; replace = c.args.self.now.replace })
    s.keytab step c.in_ok-place-in-Copy.ensures.added
    (c.in_ok-place-in-Copy.ensures.text ∙ ap (λ (t : List ℕ). t ++ copied_lines x.1 c.in-Copy.places.now c.in_ok-place-in-Copy.place) s.text)
    (c.copy.ensures.clash ∙ s.clashes)
    (c.in_ok-place-in-Copy.ensures.places ∙ ap (λ (ps : List ℕ). ps ++ c.in_ok-place-in-Copy.place ∷ []) s.places)
    (after_copy kept m same (c.in_ok-self.ensures.update.0 kept) c.in_ok-place-in-Copy.place c.args.key refl c.requires) name.1
