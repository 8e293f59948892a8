-- What a run has made, by its definition.
use Rattle.std.specs.Prelude.{◌≡◌, ℕ, List, Bool, true, false, Option, option_map, Result, Ok, Err}
use denote.Ref.{Bor}
use Rattle.krb_walk.specs.declared.refusal.Code.{Code}
use Rattle.krb_walk.specs.declared.refusal.Refusal.{Refusal}
use Rattle.krb_walk.specs.declared.refusal.Refusal.TheVariants.{Code as ByCode, NoMemory}
use Rattle.krb_wire.specs.Spelling.{Parts}
use Rattle.krb_wire.specs.Reading.{principal_parts}
use Rattle.krb_wire.specs.declared.principal.Principal.{Principal}
use Rattle.krb_keytab.specs.Find.{PlacedEntry}
use Rattle.krb_keytab.specs.Store.{KeytabState}
use Rattle.krb_copy.specs.Copying.{NewParts, Run, has_lines}
use Rattle.krb_copy.specs.Classes.{AreClasses}
use Rattle.krb_copy.specs.Texts.{AreNames}
use Rattle.krb_copy.specs.declared.copy.CopyAs.{CopyAs}
use Rattle.krb_copy.specs.declared.copy.Copying.{Copying}

-- a new name, if there is one, without where it is in memory
abbrev pub name_in : {A : Type 0} → Option (Bor (Principal A)) → Option Parts
name_in name = option_map (λ n. principal_parts n.now) name

-- what copies get, without where it is in memory
abbrev pub new_in : {A : Type 0} → CopyAs A → NewParts
new_in new = record { name = name_in new.name; kvno = new.kvno }

-- the lines, those of the clashes, and, if there are none of these, the places of the copies and the keytab are those of the run
pub record IsMade (due : Result Run Code) (text clashes places : List ℕ) (keytab : KeytabState) : Type 0 where
  pub run : Run
  pub is_due : due ≡ Ok run
  pub text_is : text ≡ run.text
  pub clashes_are : clashes ≡ run.clashes
  pub places_are : has_lines run.clashes ≡ false → places ≡ run.places
  pub keytab_is : has_lines run.clashes ≡ false → keytab ≡ run.keytab

-- the run is refused with this code, or memory ran out
abbrev pub IsRefusedBy : {X : Type 0} → Result X Code → Refusal → Type 0
IsRefusedBy due (ByCode code) = due ≡ Err code
IsRefusedBy due NoMemory = Unit {0}

-- ---- for private contracts

-- a run of the code is at that run of the definition, before these are asked for
pub record IsRun {A : Type 0} (run : Run) (asked : List PlacedEntry) (copying : Copying A) : Type 0 where
  pub keytab : copying.making.keytab.state ≡ run.keytab
  pub text : copying.making.text.items ≡ run.text
  pub clashes : copying.making.clashes.items ≡ run.clashes
  pub places : copying.making.places.items ≡ run.places
  pub classes : AreClasses run.before run.held copying.classes
  pub names : AreNames asked copying.names

-- an addition is refused and adds no line, or memory ran out
abbrev pub IsRefusal : {X : Type 0} → Result X Code → List ℕ → List ℕ → Refusal → Type 0
IsRefusal due old new (ByCode code) = (due ≡ Err code) × (new ≡ old)
IsRefusal due old new NoMemory = Unit {0}

-- the run after the next entry, or why its addition is refused
abbrev pub Meets : {A : Type 0} → Run → List PlacedEntry → Result Run Code → Result (Unit {0}) Refusal → Copying A → Type 0
Meets run asked due (Ok done) new = (next : Run) × (due ≡ Ok next) × IsRun next asked new
Meets run asked due (Err (ByCode code)) new = (due ≡ Err code) × (new.making.text.items ≡ run.text) × (new.making.clashes.items ≡ run.clashes)
Meets run asked due (Err NoMemory) new = Unit {0}

-- the run has come to its end, or is refused
abbrev pub Ends : {A : Type 0} → Result Run Code → Result (Unit {0}) Refusal → Copying A → Type 0
Ends due (Ok done) new = IsMade due new.making.text.items new.making.clashes.items new.making.places.items new.making.keytab.state
Ends due (Err refusal) new = IsRefusedBy due refusal

-- how a run ends at a refusal: one by a code only ends it if an entry has clashed; else it is the run's
abbrev pub end_at : Bool → Refusal → Result (Unit {0}) Refusal
end_at true (ByCode code) = Ok tt
end_at false (ByCode code) = Err (ByCode code)
end_at clashed NoMemory = Err NoMemory
