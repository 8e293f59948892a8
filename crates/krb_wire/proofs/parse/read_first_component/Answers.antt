use Rattle.krb_wire.proofs.Cited.{◌≡◌, ℕ, List, [], ◌∷◌, ◌++◌, refl, sym, ap, ◌∙◌, append_assoc, arith, Atom, Byte, Lone, atoms, first_component, after_first}
use Rattle.krb_wire.proofs.PlainRuns.{first_component-plain, after_first-plain}
use Rattle.krb_wire.proofs.parse.read_first_component.Goals.{in-Byte, in-Lone}
use Rattle.krb_wire.proofs.parse.read_first_component.Goals as goal

kept : (old new whole text more : List ℕ) (byte : ℕ) → new ≡ old ++ byte ∷ [] → text ≡ byte ∷ more → old ++ text ≡ whole → new ++ more ≡ whole
kept old new whole text more byte is first e = ap (λ (xs : List ℕ). xs ++ more) is ∙ append_assoc old (byte ∷ []) more ∙ ap (λ (xs : List ℕ). old ++ xs) (sym first) ∙ e

byte_first : (byte b : ℕ) (text more : List Atom) (a : Atom) → text ≡ a ∷ more → a ≡ Byte b → byte ≡ b → (first_component text ≡ byte ∷ first_component more) × (after_first text ≡ after_first more)
byte_first byte b text more a cut is same = (rw (cut, is, same) refl, rw (cut, is) refl)

lone_first : (byte : ℕ) (text more : List Atom) (a : Atom) → text ≡ a ∷ more → a ≡ Lone → byte ≡ 92 → (first_component text ≡ byte ∷ first_component more) × (after_first text ≡ after_first more)
lone_first byte text more a cut is same = (rw (cut, is, same) refl, rw (cut, is) refl)

pub loop-atom-init : goal.loop-atom-init
loop-atom-init g c =
    let run = c.split_plain.result.0.now in
    let rest = atoms c.split_plain.result.1.now in
    record {
      bytes = rw c.in_ok-bytes.ensures.items (sym (first_component-plain run rest) ∙ ap first_component (sym c.split_plain.ensures.cut));
      rest = sym (after_first-plain run rest) ∙ ap after_first (sym c.split_plain.ensures.cut);
      shorter = c.split_plain.ensures.shorter;
    }

pub loop-atom-preserved : goal.loop-atom-preserved
loop-atom-preserved g c =
    let byte = c.match-atom.byte in
    let text = atoms c.loop-atom.rest.now in
    let more = atoms c.in-Some.more.now in
    let cut = c.in-Some.ensures.cut in
    let inv = c.loop-atom.invariant in
    let first : (first_component text ≡ byte ∷ first_component more) × (after_first text ≡ after_first more) = elim c.match-atom.branch [
      | in-Byte w ↦ byte_first byte w.in-Byte.byte text more c.in-Some.atom cut w.in-Byte.is w.byte-is
      | in-Lone w ↦ lone_first byte text more c.in-Some.atom cut w.in-Lone.is w.byte-is
    ] in
    record {
      bytes = kept c.loop-atom.bytes.items c.push.new.self.items _ (first_component text) (first_component more) byte c.in_ok-push.ensures.items first.0 inv.bytes;
      rest = sym first.1 ∙ inv.rest;
      shorter = omega (arith, c.in-Some.ensures.shorter, inv.shorter);
    }
