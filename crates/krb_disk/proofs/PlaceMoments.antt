-- Each moment of a save in place is safe: what is known of the byte at each place.
use Rattle.std.proofs.Common.{◌≡◌, ◌⊎◌, inl, inr, ℕ, ◌<◌, ◌≤◌, Bool, true, false, List, [], ◌∷◌, length, slice_get, Option, sym, subst, ◌∙◌, arith, refl}
use Rattle.std.proofs.lemmas.Option.{slice_get_past}
use Rattle.krb_disk.specs.declared.stage.PlaceStage.{PlaceStage}
use Rattle.krb_disk.specs.declared.stage.PlaceStage.TheVariants.{Untouched, Quiet, Same, Extended, Lengthened, Unlocked, Ready, Overwritten, Cut, Finished, Saved, Whole, Trimmed, Back, Left, Mixed, Torn, Refilled, Lacking, Cleared}
use Rattle.krb_disk.specs.Content.{Content, IsPatch}
use Rattle.krb_disk.specs.InPlace.{PlaceSave, PlaceCall, Sync, Restore, Event, Compare, Do, Fail, Intrude, PlaceMoment, shrinks, Turns, Makes, since, still_left, clears, Does, Leads, OneHas, IsLeft, HasOld, HasEnd, IsSafe}

-- what the patch of a save is
abbrev Fits : PlaceSave → Type 0
Fits save = IsPatch save.old save.new save.first save.last

-- at a place a byte is that of the old file
abbrev Old : PlaceSave → ℕ → Option ℕ → Type 0
Old save i x = x ≡ slice_get save.old i

-- it is that of the new file
abbrev New : PlaceSave → ℕ → Option ℕ → Type 0
New save i x = x ≡ slice_get save.new i

-- where the old file has a byte, it is that
abbrev InOld : PlaceSave → ℕ → Option ℕ → Type 0
InOld save i x = i < length save.old → Old save i x

-- past the old end it is that of the new file, unless the file was cut before its old bytes were back
abbrev AtEnd : PlaceSave → Bool → ℕ → Option ℕ → Type 0
AtEnd save cleared i x = cleared ≡ false → length save.old ≤ i → New save i x

-- what is known of a byte that the file had there since it was synced last, at each stage
abbrev Seen : PlaceSave → Bool → PlaceStage → ℕ → Option ℕ → Type 0
Seen save cleared Untouched i x = ⊥
Seen save cleared Quiet i x = ⊥
Seen save cleared Same i x = Old save i x
Seen save cleared Extended i x = InOld save i x
Seen save cleared Lengthened i x = InOld save i x × AtEnd save false i x
Seen save cleared Unlocked i x = InOld save i x × AtEnd save false i x
Seen save cleared Ready i x = InOld save i x × AtEnd save false i x
Seen save cleared Finished i x = New save i x
Seen save cleared Saved i x = New save i x
Seen save cleared Whole i x = InOld save i x
Seen save cleared Trimmed i x = InOld save i x
Seen save cleared Left i x = InOld save i x
Seen save cleared Back i x = Old save i x
Seen save cleared _ i x = AtEnd save cleared i x

-- where it is not written over, an old byte is there
abbrev Others : PlaceSave → ℕ → Option ℕ → Type 0
Others save i x = (i < save.first) ⊎ (save.last ≤ i) → InOld save i x

-- old bytes may be gone: of a file that gets shorter those before the first one that is written over are there, of any other those that are not
abbrev Gone : PlaceSave → ℕ → Option ℕ → Type 0
Gone save i x = (i < save.first → Old save i x) × (shrinks save ≡ false → Others save i x)

-- what else is known of the byte that it has there now
abbrev Now : PlaceSave → Bool → PlaceStage → ℕ → Option ℕ → Type 0
Now save cleared Extended i x = AtEnd save false i x
Now save cleared Overwritten i x = Others save i x × (i < length save.new → New save i x)
Now save cleared Cut i x = New save i x
Now save cleared Trimmed i x = Old save i x
Now save cleared Mixed i x = Others save i x
Now save cleared Torn i x = Gone save i x
Now save cleared Lacking i x = Gone save i x
Now save cleared Refilled i x = InOld save i x
Now save cleared Cleared i x = Others save i x × (cleared ≡ true)
Now save cleared _ i x = Unit {0}

-- what is known of each byte that the file had there since it was synced last
abbrev Was : PlaceSave → Bool → PlaceStage → ℕ → Option ℕ → Type 0
Was save cleared s i x = (Old save i x ⊎ New save i x) × Seen save cleared s i x

-- what is known after a call: of one that did what it is to do, and of one that failed, which did that or nothing at this place
after : (save : PlaceSave) (cleared : Bool) (call : PlaceCall) (s t u : PlaceStage) (i : ℕ) (x y : Option ℕ) → Fits save → Was save cleared s i x → Now save cleared s i x → Turns save call s t u
    → (Makes save s call i x y → Was save (clears call cleared) t i y × Now save (clears call cleared) t i y) × ((y ≡ x) ⊎ Makes save s call i x y → Was save (clears call cleared) u i y × Now save (clears call cleared) u i y)
after save cleared Restore Mixed t u i x y fits was now turns = (λ makes. grind (arith, slice_get_past), λ makes. grind (arith, slice_get_past))
after save cleared Restore Torn t u i x y fits was now turns = (λ makes. grind (arith, slice_get_past), λ makes. grind (arith, slice_get_past))
after save cleared Restore Cleared t u i x y fits was now turns = (λ makes. grind (arith, slice_get_past), λ makes. grind (arith, slice_get_past))
after save cleared _ s t u i x y fits was now turns = (λ makes. grind (arith, slice_get_past), λ makes. grind (arith, slice_get_past))

-- a call that failed leaves what is known of the earlier bytes
still : (save : PlaceSave) (cleared : Bool) (call : PlaceCall) (s t u : PlaceStage) (i : ℕ) (x : Option ℕ) → Was save cleared s i x
    → Turns save call s t u → Was save (clears call cleared) u i x
still save cleared _ _ t u i x was turns = grind arith

-- what is known of a moment, if this program alone wrote
abbrev Holds : PlaceSave → PlaceMoment → Type 0
Holds save m = m.alone ≡ true → (i : ℕ) → ((x : Option ℕ) → OneHas (m.bytes ∷ m.earlier) i x → Was save m.cleared m.stage i x) × Now save m.cleared m.stage i (m.bytes i)

-- a call that failed adds at most the bytes that were there
had : (call : PlaceCall) (b : Content) (cs : List Content) (i : ℕ) (x : Option ℕ) → OneHas (still_left call b cs) i x → OneHas (b ∷ cs) i x
had call b cs i x has = grind arith

-- what a call that does what it is to do leaves of the bytes since the last sync
past : (save : PlaceSave) (cleared : Bool) (call : PlaceCall) (s t u : PlaceStage) (b : Content) (cs : List Content) (i : ℕ) (x : Option ℕ) → Fits save
    → (OneHas (b ∷ cs) i x → Was save cleared s i x) → Turns save call s t u → OneHas (since call b cs) i x → Was save (clears call cleared) t i x
past save cleared Sync s t u b cs i x fits was turns has = absurd has
past save cleared call s t u b cs i x fits was turns has = let is = was (had call b cs i x has) in grind (arith, slice_get_past)

-- it is kept by each event
event_holds : (save : PlaceSave) (event : Event) (m n : PlaceMoment) → Fits save → Holds save m → Does save event m n → Holds save n
event_holds save Compare m n fits h d = subst (λ (x : PlaceMoment). Holds save x) (sym d.now) (λ alone i. (λ x has. let same = d.has i in let none = d.synced in grind arith, tt))
event_holds save (Do call) m n fits h d = λ alone i.
    let k = h (sym d.alone ∙ alone) i in
    let new = (after save m.cleared call m.stage n.stage d.failed i (m.bytes i) (n.bytes i) fits (k.0 (m.bytes i) (inl refl)) k.1 d.turns).0 (d.makes i) in
    rw d.earlier (rw d.cleared (λ x has. elim has [ inl is ↦ rw is new.0 | inr old ↦ past save m.cleared call m.stage n.stage d.failed m.bytes m.earlier i x fits (k.0 x) d.turns old ], new.1))
event_holds save (Fail call) m n fits h d = λ alone i.
    let k = h (sym d.alone ∙ alone) i in
    let new = (after save m.cleared call m.stage d.done n.stage i (m.bytes i) (n.bytes i) fits (k.0 (m.bytes i) (inl refl)) k.1 d.turns).1 (d.makes i) in
    rw d.earlier (rw d.cleared (λ x has. elim has [ inl is ↦ rw is new.0 | inr old ↦ still save m.cleared call m.stage d.done n.stage i x (k.0 x (had call m.bytes m.earlier i x old)) d.turns ], new.1))
event_holds save Intrude m n fits h d = subst (λ (x : PlaceMoment). Holds save x) (sym d.now) (λ alone. absurd cc)

-- so it holds at each moment
leads_holds : (save : PlaceSave) (events : List Event) (now : PlaceMoment) → Fits save → Leads save events now → Holds save now
leads_holds save [] now fits leads = λ alone. absurd cc
leads_holds save (event ∷ events) now fits leads = event_holds save event leads.0 now fits (leads_holds save events leads.0 fits leads.1.0) leads.1.1

-- each old byte is there, or the new end is
ordered : (save : PlaceSave) (s : PlaceStage) (left : Content) → ((i : ℕ) → Was save false s i (left i)) → HasOld save left ⊎ HasEnd save left
ordered save Same left was = inl (λ i in_old. (was i).1)
ordered save Extended left was = inl (λ i. (was i).1)
ordered save Lengthened left was = inl (λ i. (was i).1.0)
ordered save Unlocked left was = inl (λ i. (was i).1.0)
ordered save Ready left was = inl (λ i. (was i).1.0)
ordered save Whole left was = inl (λ i. (was i).1)
ordered save Trimmed left was = inl (λ i. (was i).1)
ordered save Back left was = inl (λ i in_old. (was i).1)
ordered save Left left was = inl (λ i. (was i).1)
ordered save _ left was = inr (λ i past. let is = was i in grind arith)

-- each moment is safe
pub each_moment_in_place : (save : PlaceSave) (events : List Event) (now : PlaceMoment) (left : Content)
    → Fits save → Leads save events now → now.alone ≡ true → IsLeft now left → IsSafe save now left
each_moment_in_place save events now left fits leads alone is =
    let was : (i : ℕ) → Was save now.cleared now.stage i (left i) = λ i. (leads_holds save events now fits leads alone i).0 (left i) (is i) in
    record {
      either = λ i. (was i).0;
      ordered = λ grown uncleared. ordered save now.stage left (λ i. rw uncleared at (was i));
      ready = λ at i in_old. let w = was i in grind arith;
      saved = λ at i. let w = was i in grind arith;
      back = λ at i. let w = was i in grind arith;
      whole = λ at i in_old. let w = was i in grind arith;
    }
