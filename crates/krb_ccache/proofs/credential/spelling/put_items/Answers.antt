use Rattle.krb_ccache.proofs.Cited.{◌≡◌, ℕ, List, sym, ap, subst, ◌∙◌, flat_map, AllByRecursion, flat_map-cons, HasRoom, Puts, left_next, left_room, TypedData, typed_data, FitsTypedData, owned_typed}
use Rattle.krb_ccache.proofs.SpellingLemmas.{items_more}
use Rattle.krb_ccache.proofs.credential.spelling.put_items.Goals as goal

pub put_item-requires-clause-room : goal.put_item-requires-clause-room
put_item-requires-clause-room g c =
    let more = items_more c.args.items.now c.loop-kind.kind-index c.loop-kind-item.result c.loop-kind-test.true c.loop-kind-item.is in
    let bytes : ◌≡◌ {A = TypedData} (owned_typed c.loop-kind-item.result) (record { kind = c.loop-kind-item.result.0; bytes = c.deref.result.now }) = ap (λ (b : List ℕ). record { kind = c.loop-kind-item.result.0; bytes = b }) (sym c.deref.ensures.value) in
    subst (λ (x : TypedData). HasRoom c.loop-kind.pen (typed_data x)) bytes (left_room (typed_data (owned_typed c.loop-kind-item.result)) _ c.loop-kind.invariant.left (ap (flat_map typed_data) more ∙ flat_map-cons typed_data _ _))

pub loop-kind-preserved : goal.loop-kind-preserved
loop-kind-preserved g c =
    let more = items_more c.args.items.now c.loop-kind.kind-index c.loop-kind-item.result c.loop-kind-test.true c.loop-kind-item.is in
    let bytes : ◌≡◌ {A = TypedData} (record { kind = c.loop-kind-item.result.0; bytes = c.deref.result.now }) (owned_typed c.loop-kind-item.result) = ap (λ (b : List ℕ). record { kind = c.loop-kind-item.result.0; bytes = b }) c.deref.ensures.value in
    record {
      fits = (subst (AllByRecursion FitsTypedData) more c.loop-kind.invariant.fits).1;
      left = left_next c.loop-kind.invariant.left (ap (flat_map typed_data) more ∙ flat_map-cons typed_data _ _) (subst (λ (x : TypedData). Puts c.loop-kind.pen c.put_item.new.pen (typed_data x)) bytes c.put_item.ensures);
    }
