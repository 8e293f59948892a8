use Rattle.krb_ccache.proofs.Cited.{◌≡◌, ◌+◌, ℕ, [], length, take, drop, sym, ap, ◌∙◌, arith, take-append-drop, Version, credential_at}
use Rattle.krb_ccache.proofs.NewTexts.{second_room, second_here, around_second, whole_without, whole_same, second_left, before_second}
use Rattle.krb_ccache.proofs.new_image.around_second_enctype.Goals as goal

pub unreachable-requires : goal.unreachable-requires
unreachable-requires c = search (arith, second_here)

pub overflow_sub-at : goal.overflow_sub-at
overflow_sub-at c = search (arith, second_room)

pub tail-requires : goal.tail-requires
tail-requires c = search (arith, second_room)

pub returns-in-V4 : goal.returns-in-V4
returns-in-V4 c = λ x read. search (arith, take-append-drop, whole_same)

pub returns-in-Some : goal.returns-in-Some
returns-in-Some c = λ x read.
    let text = c.args.text.now in
    let w = around_second text x [] c.bytes_fit.ensures (ap (λ (v : Version). credential_at v text) (sym c.in-V3.is) ∙ read) in
    let t = second_left text c.in-Some.rest.now x [] w c.in-Some.ensures in
    let at : _ ≡ length (before_second x) = omega (arith, t.0) in
    whole_without x c.split_at-in-V3.result.0.now c.tail.result.now
    (c.split_at-in-V3.ensures.front ∙ ap (λ (n : ℕ). take n text) at ∙ w.front)
    (c.tail.ensures ∙ ap (λ (n : ℕ). drop (n + 2) text) at ∙ w.back)
