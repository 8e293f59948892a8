-- A save of each kind, by this program alone.
use Rattle.std.proofs.Common.{◌≡◌, ◌≢◌, ℕ, ◌≤◌, Bool, true, false, List, [], ◌∷◌, slice_get, Option, None, Some, if◌then◌else◌, codes, arith, refl, sym, ◌∙◌}
use Rattle.std.specs.Prelude.{bytes_eq}
use Rattle.std.proofs.lemmas.Bool.{cond_both}
use Rattle.std.proofs.lemmas.Option.{slice_get_past}
use Rattle.std.proofs.lemmas.Slice.Eq.{bytes_eq-Decides}
use Rattle.krb_disk.specs.declared.stage.PlaceStage.{PlaceStage}
use Rattle.krb_disk.specs.declared.stage.PlaceStage.TheVariants as place
use Rattle.krb_disk.specs.declared.stage.Stage.{Stage}
use Rattle.krb_disk.specs.declared.stage.Stage.TheVariants.{Made, Locked, Agreed, Held, Written, Permitted, Synced, Quiet, Ours, Same, Lost}
use Rattle.krb_disk.specs.Content.{Content, IsPatch}
use Rattle.krb_disk.specs.InPlace.{PlaceSave, PlaceCall, PlaceMoment, Compare, Do, Watch, Pass, Overwrite, Shorten, Sync, Confirm, SavesInPlace, Turns, Makes, Works, since, clears}
use Rattle.krb_disk.specs.Disk as disk
use Rattle.krb_disk.specs.Stages.{private_mode}

-- ---- in place

-- one byte in place of another
abbrev byte : PlaceSave
byte = record { old = 0 ∷ []; new = 1 ∷ []; first = 0; last = 1 }

past_both : (i : ℕ) → 1 ≤ i → slice_get {X = ℕ} (1 ∷ []) i ≡ slice_get {X = ℕ} (0 ∷ []) i
past_both i past = slice_get_past {X = ℕ} (1 ∷ []) i past ∙ sym (slice_get_past {X = ℕ} (0 ∷ []) i past)

patch : IsPatch (0 ∷ []) (1 ∷ []) 0 1
patch = record { order = omega arith; in_old = omega arith; in_new = omega arith; front = λ i before. absurd (omega (arith, before)); back = λ i past in_old in_new. absurd (omega (arith, past, in_old)); begins = λ is same. cc; ends = λ is same. cc }

abbrev content : ℕ → Content
content b i = slice_get (b ∷ []) i

-- a moment at which the file has that byte
abbrev moment : PlaceStage → ℕ → List Content → Bool → PlaceMoment
moment stage b earlier alone = record { stage = stage; bytes = content b; earlier = earlier; alone = alone; cleared = false }

-- a call that does what it is to do
works : (call : PlaceCall) (m n : PlaceMoment) (u : PlaceStage) → Turns byte call m.stage n.stage u → ((i : ℕ) → Makes byte m.stage call i (m.bytes i) (n.bytes i))
    → n.earlier ≡ since call m.bytes m.earlier → n.alone ≡ m.alone → n.cleared ≡ clears call m.cleared → Works byte call m n
works call m n u turns makes earlier alone cleared = record { failed = u; turns = turns; makes = makes; earlier = earlier; alone = alone; cleared = cleared }

pub saves_in_place : SavesInPlace
saves_in_place =
    let first = moment place.Untouched 0 [] false in
    let quiet = moment place.Quiet 0 [] false in
    let same = moment place.Same 0 [] true in
    let ready = moment place.Ready 0 (content 0 ∷ []) true in
    let written = moment place.Overwritten 1 (content 0 ∷ (content 0 ∷ [])) true in
    let cut = moment place.Cut 1 (content 1 ∷ (content 0 ∷ (content 0 ∷ []))) true in
    let finished = moment place.Finished 1 [] true in
    let saved = moment place.Saved 1 (content 1 ∷ []) true in
    let watches = works Watch first quiet place.Untouched (refl, refl, refl) (λ i. refl) refl refl refl in
    let passes = works Pass same ready place.Same (refl, refl, refl, refl) (λ i. refl) refl refl refl in
    let writes = works Overwrite ready written place.Mixed (refl, refl, refl) (λ i. record { within = λ past before. refl; front = λ before. absurd (omega (arith, before)); back = past_both i }) refl refl refl in
    let cuts = works Shorten written cut place.Torn (refl, refl, refl) (λ i. refl) refl refl refl in
    let finishes = works Sync cut finished place.Torn (refl, refl) (λ i. refl) refl refl refl in
    let confirms = works Confirm finished saved place.Finished (refl, refl, refl) (λ i. refl) refl refl refl in
    (byte, Do Confirm ∷ (Do Sync ∷ (Do Shorten ∷ (Do Overwrite ∷ (Do Pass ∷ (Compare ∷ (Do Watch ∷ [])))))), saved, patch, omega arith, tt, (finished, ((cut, ((written, ((ready, ((same, ((quiet, ((first, ((refl, refl), watches)), record { due = refl; has = λ i. refl; synced = refl; now = refl })), passes)), writes)), cuts)), finishes)), confirms)), refl, refl)

-- ---- a new file

-- the file `f` is made where there is none
abbrev made : disk.Save
made = record { path = codes "f"; bytes = []; old = None; is_snapshot = λ file. true }

-- that file under a path, and no other
abbrev only : List ℕ → Option disk.File → disk.Names
only path file name = if bytes_eq name path then file else None

-- elsewhere there is none
elsewhere : (path name : List ℕ) (file : Option disk.File) → name ≢ path → only path file name ≡ None
elsewhere path name file other = cond_both (bytes_eq name path) file None (λ (f : Option disk.File). f ≡ None) (λ is. absurd (other ((bytes_eq-Decides name path).0 is))) (λ is. refl)

abbrev at : Stage → disk.Names → Bool → Bool → disk.Moment
at stage names saved fresh = record { stage = stage; names = names; theirs = λ name. None; saved = saved; fresh = fresh }

abbrev beside : Stage → Option disk.File → disk.Moment
beside stage file = at stage (only (codes "f.krbfile") file) false false

asks : (call : disk.Call) (s t : Stage) (old new : Option disk.File) → disk.Turns made call s old t new → disk.Asks made call (beside s old) (beside t new)
asks call s t old new turns = record { turns = turns; others = λ name other. elsewhere (codes "f.krbfile") name new other ∙ sym (elsewhere (codes "f.krbfile") name old other); theirs = refl; saved = refl; fresh = refl }

-- a call after others
next : (call : disk.Call) (calls : List disk.Call) (m n : disk.Moment) → disk.Happens made calls m → disk.Does made call m n → disk.Happens made (call ∷ calls) n
next call calls m n happens does = (m, (happens, does))

pub saves : disk.Saves
saves =
    let new = Some (record { bytes = []; mode = private_mode; durable = false }) in
    let synced = Some (record { bytes = []; mode = private_mode; durable = true }) in
    let calls = disk.Lock ∷ (disk.Make ∷ []) in
    let written = disk.Permit private_mode ∷ (disk.Write ∷ (disk.Double ∷ (disk.AtPath ∷ calls))) in
    let watched = disk.Watch true ∷ (disk.Sync ∷ written) in
    let compared = at (Same None) (only (codes "f.krbfile") synced) false true in
    let done = at Lost (only (codes "f") synced) true false in
    let m = next disk.Make [] (beside Lost None) (beside Made new) (record { stage = refl; names = λ name. cond_both (bytes_eq name (codes "f.krbfile")) None None (λ (f : Option disk.File). f ≡ None) (λ is. refl) (λ is. refl); saved = refl; fresh = refl }) (asks disk.Make Lost Made None new (refl, refl, refl)) in
    let l = next disk.Lock (disk.Make ∷ []) (beside Made new) (beside Locked new) m (asks disk.Lock Made Locked new new (refl, refl, refl)) in
    let a = next disk.AtPath calls (beside Locked new) (beside Agreed new) l (asks disk.AtPath Locked Agreed new new (refl, refl)) in
    let d = next disk.Double (disk.AtPath ∷ calls) (beside Agreed new) (beside Held new) a (asks disk.Double Agreed Held new new (refl, refl, refl)) in
    let w = next disk.Write (disk.Double ∷ (disk.AtPath ∷ calls)) (beside Held new) (beside Written new) d (asks disk.Write Held Written new new (refl, refl, refl)) in
    let p = next (disk.Permit private_mode) (disk.Write ∷ (disk.Double ∷ (disk.AtPath ∷ calls))) (beside Written new) (beside (Permitted None) new) w (asks (disk.Permit private_mode) Written (Permitted None) new new (refl, refl, refl)) in
    let s = next disk.Sync written (beside (Permitted None) new) (beside (Synced None) synced) p (asks disk.Sync (Permitted None) (Synced None) new synced (refl, refl)) in
    let q = next (disk.Watch true) (disk.Sync ∷ written) (beside (Synced None) synced) (beside (Quiet None) synced) s (asks (disk.Watch true) (Synced None) (Quiet None) synced synced (refl, refl)) in
    let o = next disk.AtPath watched (beside (Quiet None) synced) (beside (Ours None) synced) q (asks disk.AtPath (Quiet None) (Ours None) synced synced (refl, refl)) in
    let c = next disk.Compare (disk.AtPath ∷ watched) (beside (Ours None) synced) compared o (record { due = refl; snapshot = refl; now = refl }) in
    (made, disk.Rename ∷ (disk.Compare ∷ (disk.AtPath ∷ watched)), done, refl, next disk.Rename (disk.Compare ∷ (disk.AtPath ∷ watched)) compared done c (record { due = tt; named = refl; others = λ name p q. elsewhere (codes "f") name synced p ∙ sym (elsewhere (codes "f.krbfile") name synced q); now = refl }), refl)
