use Rattle.krb_wire.proofs.Cited.{◌≡◌, ◌∙◌, sym, ap, List, ℕ, Some, None, option_copied, atoms, realm_of}
use Rattle.krb_wire.proofs.AtomLemmas.{named, realm_of-first, no_realm}
use Rattle.krb_wire.proofs.parse.read_realm.Goals as goal

pub returns-in-Some : goal.returns-in-Some
returns-in-Some g c =
    let sound = named _ _ _ c.requires in
    realm_of-first (atoms c.args.text.now) (atoms c.in-Some.realm.now) (option_copied c.args.default_realm) sound.0 c.in-Some.ensures
    ∙ ap (λ (bytes : List ℕ). Some bytes) (sym c.in_ok-bytes.ensures.bytes)

pub unreachable-requires : goal.unreachable-requires
unreachable-requires g c =
    let sound = named _ _ _ c.requires in
    let none : realm_of (atoms c.args.text.now) (option_copied c.args.default_realm) ≡ None = no_realm (atoms c.args.text.now) (option_copied c.args.default_realm) c.in_default.ensures (ap option_copied c.in_default-default_realm.is) in
    cc (sound.1.1, none)
