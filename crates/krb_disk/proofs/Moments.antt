-- Each moment of a save is safe.
use Rattle.std.proofs.Common.{◌≡◌, ◌≢◌, ℕ, ◌+◌, true, false, List, [], ◌∷◌, ◌++◌, Option, None, Some, IsSomeAnd, IsTrue, codes, length, length-append, arith, refl, sym, ap, ◌∙◌}
use Rattle.std.proofs.lemmas.Bool.{true_from_ne_false}
use Rattle.krb_disk.specs.declared.stage.Stage.{Stage}
use Rattle.krb_disk.specs.declared.stage.Stage.TheVariants.{Written, Examined, Permitted, Synced, Quiet, Ours, Same}
use Rattle.krb_disk.specs.Disk.{File, Names, Save, Call, AtPath, Permit, Compare, Watch, Rename, Intrude, Pass, Moment, Turns, Does, Happens, IsLeft, HasDueMode, HasLooked, IsSafe, own}
use Rattle.krb_disk.specs.Stages.{IsReady, IsSame}
use Rattle.krb_disk.specs.NewFile.{new_path}

-- the file exists and has the bytes of the save
abbrev HasBytes : Save → Option File → Type 0
HasBytes save file = IsSomeAnd file (λ f. f.bytes ≡ save.bytes)

-- and has the mode due
abbrev IsPermitted : Save → Option File → Type 0
IsPermitted save file = IsSomeAnd file (λ f. (f.bytes ≡ save.bytes) × HasDueMode save f.mode)

-- and survives a crash
abbrev IsWhole : Save → Option File → Type 0
IsWhole save file = IsSomeAnd file (λ f. (f.bytes ≡ save.bytes) × (HasDueMode save f.mode × (f.durable ≡ true)))

-- what is known of the new file at each stage
abbrev HasCome : Save → Stage → Option File → Type 0
HasCome save Written file = HasBytes save file
HasCome save (Examined found) file = HasBytes save file
HasCome save (Permitted old) file = IsPermitted save file
HasCome save (Synced old) file = IsWhole save file
HasCome save (Ours old) file = IsWhole save file
HasCome save (Same old) file = IsWhole save file
HasCome save (Quiet old) file = IsWhole save file
HasCome save _ file = Unit {0}

-- each call on the new file leaves it as known of its next stage
keeps : (save : Save) (call : Call) (s : Stage) (file : Option File) (t : Stage) (new : Option File) → HasCome save s file → Turns save call s file t new → HasCome save t new
keeps save (Permit mode) Written (Some f) t new come turns = grind arith
keeps save (Permit mode) (Examined found) (Some f) t new come turns = grind arith
keeps save _ _ None t new come turns = grind arith
keeps save _ _ (Some f) t new come turns = grind arith

-- the invariant of moments
record Holds (save : Save) (m : Moment) : Type 0 where
  old : m.saved ≡ false → m.names save.path ≡ m.theirs save.path
  whole : m.saved ≡ true → IsWhole save (m.names save.path)
  others : (name : List ℕ) → name ≢ save.path → name ≢ new_path save.path → m.names name ≡ m.theirs name
  snapshot : m.fresh ≡ true → IsTrue (save.is_snapshot (m.names save.path))
  come : HasCome save m.stage (m.names (new_path save.path))

-- the new file's name is not the old one
apart : (path : List ℕ) → path ≢ new_path path
apart path is =
    let more : length (path ++ codes ".krbfile") ≡ length path + 8 = length-append path (codes ".krbfile") in
    let same : length path ≡ length (path ++ codes ".krbfile") = ap length is in
    omega arith

-- it holds after any call
does_holds : (save : Save) (call : Call) (m n : Moment) → Holds save m → Does save call m n → Holds save n
does_holds save Compare m n h d = rw d.now (record { old = h.old; whole = h.whole; others = h.others; snapshot = λ is. d.snapshot; come = rw d.due at h.come })
does_holds save Rename m n h d = rw d.now (record {
  old = λ is. absurd cc;
  whole = λ is. rw d.named (let due = d.due in let come = h.come in grind arith);
  others = λ name p q. d.others name p q ∙ h.others name p q;
  snapshot = λ is. absurd cc;
  come = tt;
})
does_holds save Intrude m n h d = rw d.now (record {
  old = λ is. d.old;
  whole = λ is. absurd cc;
  others = λ name p q. d.names name p ∙ h.others name p q ∙ sym (d.theirs name p);
  snapshot = λ is. absurd cc;
  come = rw (d.names (new_path save.path) (λ e. apart save.path (sym e))) h.come;
})
does_holds save Pass m n h d = rw d.now (record {
  old = λ is. d.old ∙ h.old is ∙ sym d.theirs;
  whole = λ is. rw d.old (h.whole is);
  others = d.others;
  snapshot = λ is. rw d.old (h.snapshot is);
  come = rw d.new h.come;
})
does_holds save call m n h d =
    let path_is = d.others save.path (apart save.path) in
    record {
      old = λ is. let old = h.old (sym d.saved ∙ is) in let theirs = d.theirs in cc;
      whole = λ is. rw path_is (h.whole (sym d.saved ∙ is));
      others = λ name p q. d.others name q ∙ h.others name p q ∙ sym (ap (λ (x : Names). x name) d.theirs);
      snapshot = λ is. rw path_is (h.snapshot (sym d.fresh ∙ is));
      come = keeps save call m.stage (m.names (new_path save.path)) n.stage (n.names (new_path save.path)) h.come d.turns;
    }

-- what the last calls of a save have looked at, at each stage before its rename
abbrev LooksAre : Stage → List Call → Type 0
LooksAre (Quiet old) calls = (rest : List Call) × (calls ≡ Watch true ∷ rest)
LooksAre (Ours old) calls = (rest : List Call) × (calls ≡ AtPath ∷ (Watch true ∷ rest))
LooksAre (Same old) calls = (rest : List Call) × (calls ≡ Compare ∷ (AtPath ∷ (Watch true ∷ rest)))
LooksAre _ calls = Unit {0}

-- each call on the new file adds to them what is known of its next stage
looks_on : (save : Save) (call : Call) (s : Stage) (file : Option File) (t : Stage) (new : Option File) (calls : List Call) → LooksAre s calls → Turns save call s file t new → LooksAre t (call ∷ calls)
looks_on save (Watch true) (Synced old) file t new calls looks turns = rw turns.0 (calls, refl)
looks_on save AtPath (Quiet old) file t new calls looks turns = rw turns.0 (looks.0, ap (λ x. AtPath ∷ x) looks.1)
looks_on save (Watch true) _ file t new calls looks turns = rw turns.0 tt
looks_on save (Watch false) s file t new calls looks turns = grind arith
looks_on save call s file t new calls looks turns = grind arith

-- so does each call of the save, and what other programs do adds nothing
does_look : (save : Save) (call : Call) (m n : Moment) (calls : List Call) → LooksAre m.stage (own calls) → Does save call m n → LooksAre n.stage (own (call ∷ calls))
does_look save Compare m n calls looks d =
    let looked : LooksAre (Ours save.old) (own calls) = rw d.due at looks in
    rw d.now (looked.0, ap (λ x. Compare ∷ x) looked.1)
does_look save Rename m n calls looks d = rw d.now tt
does_look save Intrude m n calls looks d = rw d.now looks
does_look save Pass m n calls looks d = rw d.now looks
does_look save call m n calls looks d = looks_on save call m.stage (m.names (new_path save.path)) n.stage (n.names (new_path save.path)) (own calls) looks d.turns

-- so they are known at each moment
happens_look : (save : Save) (calls : List Call) (now : Moment) → Happens save calls now → LooksAre now.stage (own calls)
happens_look save [] now happens = rw happens.stage tt
happens_look save (call ∷ calls) now happens = does_look save call happens.0 now calls (happens_look save calls happens.0 happens.1.0) happens.1.1

-- and a file that may be renamed was looked at
same_looked : (s : Stage) (calls : List Call) → IsSame s → LooksAre s calls → HasLooked calls
same_looked (Same old) calls same looks = rw looks.1 tt
same_looked _ calls same looks = absurd same

-- so it holds at each moment
happens_holds : (save : Save) (calls : List Call) (now : Moment) → Happens save calls now → Holds save now
happens_holds save [] now first = record { old = λ is. first.names save.path; whole = λ is. absurd cc; others = λ name p q. first.names name; snapshot = λ is. absurd cc; come = rw first.stage tt }
happens_holds save (call ∷ calls) now happens = does_holds save call happens.0 now (happens_holds save calls happens.0 happens.1.0) happens.1.1

-- each moment is safe
pub each_moment : (save : Save) (calls : List Call) (now : Moment) (left : Names) → Happens save calls now → ((name : List ℕ) → IsLeft (now.names name) (left name)) → IsSafe save calls now left
each_moment save calls now left happens leaves =
    let h : Holds save now = happens_holds save calls now happens in
    record {
      old = λ saved. rw (h.old saved) at (leaves save.path);
      whole = λ saved. let whole = h.whole saved in let is = leaves save.path in grind arith;
      others = λ name p q. rw (h.others name p q) at (leaves name);
      snapshot = λ same window. h.snapshot (true_from_ne_false now.fresh (λ is. window (same, is)));
      looked = λ same. same_looked now.stage (own calls) same (happens_look save calls now happens);
    }
