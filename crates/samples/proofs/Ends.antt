-- How runs end, when they read the clock, and what hold takes: worked by hand from krbfile(1).
use Rattle.samples.proofs.Cited.{refl, ◌≡◌, ◌+◌, ℕ, [], ◌∷◌, map, codes, true, false, None, Some, Ok, Err, Beyond, Without, Well, ended_by, most_bytes, node_of, RunEnd, FileNotWritten, NoSuchFile, FileName, Word, Default, Ending, ending_status, end_status, error_status, save_error, ErrorWatch, is_missing, is_none, seen_after, needed_time, first_talk, most_frame, last_line, CommandPlan, of_file, TicketRemoval}
use Rattle.krb_driver.specs.Commands.{always}
use Rattle.krb_wire.specs.declared.format.Order.{Order}
use Rattle.krb_walk.specs.declared.fault.FaultKind.TheVariants.{CutLength}
use Rattle.krb_files.specs.declared.aftermath.Aftermath.TheVariants.{Damaged, LostChange, Mixed, Restored}
use Rattle.krb_files.specs.declared.cause.Cause.TheVariants.{InTheWay}
use Rattle.krb_files.specs.declared.files.SaveFault.TheVariants as save
use Rattle.krb_files.specs.declared.node.Node.TheVariants.{Nothing, PlainFile, Folder, Unknown}
use Rattle.krb_files.specs.Bytes.{Watch}
use Rattle.krb_driver.specs.declared.error.RunError.TheVariants as error
use Rattle.krb_audit.specs.Findings.{is_out}
use Rattle.krb_editors.specs.declared.removing.FilesSeen.TheVariants as seen
use Rattle.krb_driver.specs.declared.command.World.{World}
use Rattle.krb_driver.specs.Several.{first_round, is_last}
use Rattle.samples.proofs.Unfolded.{on_literals}

-- ---- statuses

-- a change of another program that was lost, or that the file has beside the run's own, makes a status of 0 a 1
left-behind : map (λ left. end_status (Ok Well) (Some left)) (LostChange ∷ Mixed ∷ Restored ∷ []) ≡ 1 ∷ 1 ∷ 0 ∷ []
left-behind = refl

-- of several the greatest status counts
failed-beside-another : end_status (Err error.FileNotWritten) (Some Mixed) ≡ 3
failed-beside-another = refl

save-without-memory : error_status (save_error save.NoMemory) ≡ 4
save-without-memory = refl

-- an error of a file names it, and where the name comes from
missing-default : (file : FileName) → file.source ≡ Default → of_file {X = ℕ} file (Err (error.NoSuchFile Word)) ≡ Err (file.name.now, error.NoSuchFile Default)
missing-default file is = rw is refl

same-for-any-mode : (plan : CommandPlan) → always plan (Some 420) ≡ plan
unfolding always
same-for-any-mode plan = refl

-- of several files the next one follows one that cannot be saved, but not without memory
no-memory-ends : map (λ why. is_last (Err why)) (error.FileNotWritten ∷ error.NoMemory ∷ []) ≡ false ∷ true ∷ []
no-memory-ends = refl

first-status : {S F R W E : Type 0} (state : S) (world : World F R W E) → (first_round state world).status ≡ 0
first-status state world = refl

-- ktutil begins with an empty list
first-list : {F : Type 0} (order : Order) (files : F) (out : Watch) (err : ErrorWatch) → (first_talk order files out err).state.entries ≡ []
first-list order files out err = refl

-- ---- files that are missing

nothing-there : map node_of (None ∷ Some [] ∷ []) ≡ Nothing ∷ PlainFile ∷ []
nothing-there = refl

-- a file of another type is missing, whatever lies there; any other is where nothing does
other-type : (file : FileName) → file.is_other_type ≡ true → is_missing file PlainFile ≡ true
other-type file is = rw is refl

no-such-file : (file : FileName) → file.is_other_type ≡ false → map (is_missing file) (Nothing ∷ Folder ∷ Unknown ∷ []) ≡ true ∷ false ∷ false ∷ []
no-such-file file is = rw is refl

-- ---- the clock

-- an age needs the clock
age-without-clock : needed_time (Beyond 1 (Some 3600)) None ≡ Err error.ClockNotRead
age-without-clock = refl

old-without-clock : needed_time (Beyond 1 None) None ≡ Ok 0
old-without-clock = refl

expired-without-clock : (o : TicketRemoval) → o.expired ≡ true → ended_by o None ≡ Err error.ClockNotRead
expired-without-clock o is = rw is refl

-- ---- hold

-- the greatest length has ten digits at most, and a newline after them
greatest-frame : most_frame ≡ most_bytes + 11
greatest-frame = refl

-- what the save left comes before all else
last-left : map (λ left. last_line 3 None (Some left) (Err (codes "k", error.FileNotWritten))) (LostChange ∷ Damaged ∷ Mixed ∷ Restored ∷ [])
    ≡ codes "lost\n" ∷ codes "damaged\n" ∷ codes "damaged\n" ∷ codes "failed 3 EIO\n" ∷ []
unfolding on_literals
last-left = refl

-- a failed call has its cause, and what is damaged the number that krbfile.h has for it
last-failed : map (λ error. last_line 1 (Some InTheWay) None (Err (codes "k", error))) (error.FileNotWritten ∷ error.InputNotWhole ∷ error.DamagedInput (record { kind = CutLength; place = 2 }) ∷ [])
    ≡ codes "failed 1 EEXIST\n" ∷ codes "failed 1 EBADMSG\n" ∷ codes "failed 1 31\n" ∷ []
unfolding on_literals
last-failed = refl

-- ---- ktcheck

-- MIT's programs take counts and lengths from 1 to 32,767
check-out : map is_out (0 ∷ 1 ∷ 32767 ∷ 32768 ∷ []) ≡ true ∷ false ∷ false ∷ true ∷ []
unfolding on_literals
check-out = refl

-- ---- several files

-- a run that ended so
abbrev ended : Ending → RunEnd
ended end = record { ending = end; status = ending_status end }

-- one file is without what is asked for: no file has it if a message was printed about the other one, but not if that was asked
none-has-it : map (λ end. is_none (seen_after (seen_after seen.None (ended (Ok Without))) (ended end))) (Err (NoSuchFile Word) ∷ Ok Well ∷ Err FileNotWritten ∷ []) ≡ true ∷ false ∷ false ∷ []
none-has-it = refl
