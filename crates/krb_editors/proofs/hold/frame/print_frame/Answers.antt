use Rattle.krb_editors.proofs.Cited.{◌≡◌, ◌∙◌, arith, ℕ, List, ◌++◌, length, ap, refl, sym, subst, Ok, Err, length-append, true≢false, false≢true, codes, decimal, IsTrue, IsFalse, OutputNotWritten, Well, Shows, Writes}
use Rattle.krb_files.specs.Bytes.{Watch}
use Rattle.krb_driver.specs.RunErrors.{Ending}
use Rattle.krb_editors.specs.Hold.{frame}
use Rattle.krb_editors.proofs.hold.frame.print_frame.Goals as goal

shows : (old new : Watch) (image text : List ℕ) (ending : Ending) → text ≡ frame image → Writes old new text → (IsFalse new.failed → ending ≡ Ok Well) → (IsTrue new.failed → ending ≡ Err OutputNotWritten)
    → Shows (record { out = frame image; ending = Ok Well }) old new ending
shows old new image text ending is writes well failed =
    let whole = subst (Writes old new) is writes in
    record {
      done = λ good. (whole.whole good, well good);
      prefix = whole.prefix;
      failed = failed;
      still = λ none. absurd (omega (arith, ap length none, length-append (decimal (length image)) (codes "\n" ++ image)));
    }

pub returns-then-has_failed : goal.returns-then-has_failed
returns-then-has_failed g c =
    shows _ _ c.args.image.now _ _ c.frame_of.ensures c.write_pieces.ensures (λ well. absurd (true≢false (sym (sym c.has_failed.ensures ∙ c.if-has_failed.true) ∙ well))) (λ _. refl)

pub returns : goal.returns
returns g c =
    shows _ _ c.args.image.now _ _ c.frame_of.ensures c.write_pieces.ensures (λ _. refl) (λ failed. absurd (false≢true (sym (sym c.has_failed.ensures ∙ c.if-has_failed.false) ∙ failed)))
