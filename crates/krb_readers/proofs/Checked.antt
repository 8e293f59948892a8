-- What ktcheck shows of a file, as JSON, and of one that gave no keytab.
use Rattle.krb_readers.proofs.Cited.{arith, ◌≡◌, ℕ, KeytabCheck, List, ap, Bool, true, false, IsFalse, Ok, Err, CheckParts, EndsAfter, ShowsPage, output_error, verdict_status, Appends-nil, AppendsPrefix-none, Watch, OutFault, Ends, check_json_text, Prints, found_verdict, is_silent, object_page, refused_effect, Displays, Page, Result, makes-end, FileName, Ghosts, Effect, IsMade, MakesFairly, any, tries, Tries, FindingSet}
use Rattle.krb_files.specs.Loading.{Answer}
use Rattle.krb_driver.specs.declared.error.RunError.{RunError}
use Rattle.krb_driver.specs.declared.error.RunError.TheVariants.{NoMemory}
use Rattle.krb_driver.specs.declared.verdict.Verdict.{Verdict}
use Rattle.krb_readers.proofs.Listed.{ShowsPage-done, ShowsPage-failed, line-some}

-- a file that gave no keytab, or no cache, ends the run
refused_ends : (json : Bool) (file : FileName) → EndsAfter file (λ why. Ends (refused_effect json file.name.now why))
refused_ends json file = search arith

-- what is due of what a file gave
abbrev due : {X : Type 0} → Bool → List ℕ → (X → Page) → Result X RunError → Effect
due json name page (Ok x) = Displays name (page x)
due json name page (Err why) = refused_effect json name why

-- a file was tried, and this was made of what it gave
pub tried : {F X : Type 0} (trait : Ghosts F) (old : F) (file : FileName) (gives : Answer → Result X RunError) (given : Result X RunError) (json : Bool) (page : X → Page) (effect : Effect) (new : F)
    → Tries trait old file gives given new → IsMade (due json file.name.now page given) effect
    → MakesFairly trait old (tries file gives (λ x. Ends (Displays file.name.now (page x))) (λ why. Ends (refused_effect json file.name.now why))) any effect new
tried trait old file gives given json page effect new tries made = search (arith, refused_ends, makes-end)

module _ (o : KeytabCheck) (explained : FindingSet) (file : List ℕ) (c : CheckParts) where
  -- the object of a file
  abbrev pub object : List ℕ
  object = check_json_text file c (verdict_status (found_verdict o explained c))

  -- memory ran out before anything was printed
  pub object-unshown : (out : Watch) → IsFalse out.failed → ShowsPage out out (Err NoMemory) (object_page o explained file c)
  object-unshown out well = search (arith, AppendsPrefix-none)

  -- nothing is printed
  pub object-silent : (out : Watch) (verdict : Verdict) → IsFalse out.failed → verdict ≡ found_verdict o explained c → is_silent o c ≡ true → ShowsPage out out (Ok verdict) (object_page o explained file c)
  object-silent out verdict well is silent = search (arith, ShowsPage-done, Appends-nil)

  -- the object was printed
  pub object-shown : (out out' : Watch) (verdict : Verdict) → IsFalse out.failed → verdict ≡ found_verdict o explained c → is_silent o c ≡ false
      → Prints {T = Unit {0}} out out' (Ok tt) object → ShowsPage out out' (Ok verdict) (object_page o explained file c)
  object-shown out out' verdict well is prints p = ShowsPage-done (object_page o explained file c) out out' (Ok verdict) well p.failed (rw prints p.ok) (ap Ok is)

  -- the output failed, or memory ran out, before its end
  pub object-failed : (out out' : Watch) (fault : OutFault) → is_silent o c ≡ false → Prints {T = Unit {0}} out out' (Err fault) object → ShowsPage out out' (Err (output_error fault)) (object_page o explained file c)
  object-failed out out' fault prints p = search (arith, ShowsPage-failed, line-some)
