use Rattle.krb_keytab.proofs.Cited.{◌≡◌, ℕ, List, [], ◌∷◌, drop, refl, KtFormat, contents, KeytabState, empty}
use Rattle.krb_keytab.proofs.ImageChanges.{contents_none}
use Rattle.krb_keytab.proofs.keytab.Keytab.create.Goals as goal

holds_nothing : (f : KtFormat) (limit most version : ℕ) (bytes : List ℕ) → limit ≡ most → bytes ≡ 5 ∷ version ∷ []
    → ◌≡◌ {A = KeytabState} (record { format = f; limit = limit; contents = contents f (drop 2 bytes) }) (empty f most)
holds_nothing f limit most version bytes is_limit is_bytes = rw (is_limit, is_bytes, contents_none f) refl

pub returns : goal.returns
returns g c = holds_nothing c.args.format c.image-limit.result c.args.limits c.version.result c.in_ok-image.image.items c.image-limit.ensures.value c.in_ok-image.ensures.items
