use Rattle.krb_ccache.proofs.Cited.{◌≡◌, ◌+◌, ◌≤◌, ◌++◌, ℕ, List, length, refl, sym, ap, ◌∙◌, arith, splice, IsBytes, V4, credential, cache_of}
use Rattle.krb_ccache.proofs.ImageLemmas.{image_parts}
use Rattle.krb_ccache.proofs.LastCredential.{put_last, image_appendable, last_holds}
use Rattle.krb_ccache.proofs.append.append_credential.Goals as goal

pub returns-clause-ok : goal.returns-clause-ok
returns-clause-ok g c =
    let h = c.args.layout in
    let old = c.args.image.now.items in
    let new = c.put_into.new.image.items in
    let x = c.args.cred.now in
    let text = credential V4 x in
    let len : length old ≡ c.len-end.result = let ok = c.args.image.now.ok.0 in let is = c.len-end.ensures in omega (arith, ok, is) in
    let fits : IsBytes old = rw c.deref.ensures.value at c.bytes_fit.ensures in
    let new_fits : IsBytes new = rw c.deref-2.ensures.value at c.bytes_fit-2.ensures in
    let room : length old + c.args.len ≤ h.limit = let ok = c.args.image.now.ok.0 in omega (arith, ok, c.requires.room) in
    let put : new ≡ old ++ text = put_last old new text c.args.len c.len-end.result (c.len-end.result + length text) (sym len) refl c.requires.len (c.put_into.ensures ∙ ap (λ (b : List ℕ). splice b c.len-end.result (c.len-end.result + length text) text) c.in_ok-grow.ensures.ok) in
    let parts = image_parts h old fits c.requires.kept in
    let a = image_appendable h old (cache_of h old) fits c.requires.kept refl c.requires.whole c.requires.version in
    last_holds h (cache_of h old) new x c.args.len (c.len-end.result + c.args.len) a new_fits c.requires.fits c.requires.len (omega (arith, room, parts.total, ap length c.requires.whole)) (omega (arith, len, parts.total, ap length c.requires.whole)) (put ∙ ap (λ (b : List ℕ). b ++ text) parts.spells)
