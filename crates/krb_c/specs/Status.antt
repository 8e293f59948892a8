-- The status codes of calls: 0 done, 1 out of memory, 2 the end of a walk; from 11 on why an image is refused, from 21 on what is wrong with a name, from 31 on why a store refuses.
use Rattle.std.specs.Prelude.{◌≡◌, ◌⊎◌, ℕ, ◌+◌, Option, Some, None, Result, Ok, Err}
use Rattle.krb_wire.specs.declared.name_fault.NameFault.{NameFault}
use Rattle.krb_wire.specs.declared.name_fault.NameFault.TheVariants as fault
use Rattle.krb_walk.specs.declared.refusal.Code.{Code}
use Rattle.krb_walk.specs.declared.refusal.Refusal.{Refusal}
use Rattle.krb_walk.specs.declared.refusal.Refusal.TheVariants as refusal
use Rattle.krb_walk.specs.declared.fault.Fault.{Fault}
use Rattle.krb_walk.specs.Phrases.{code_number, fault_number}
use Rattle.krb_keytab.specs.declared.open.KtOpenFault.{KtOpenFault}
use Rattle.krb_keytab.specs.Open.{open_fault_number as kt_fault_number}
use Rattle.krb_ccache.specs.declared.open.CcOpenFault.{CcOpenFault}
use Rattle.krb_ccache.specs.Open.{open_fault_number as cc_fault_number}

-- of an image that is not a keytab
abbrev pub kt_open_status : KtOpenFault → ℕ
kt_open_status why = 10 + kt_fault_number why

-- of an image that is not a cache
abbrev pub cc_open_status : CcOpenFault → ℕ
cc_open_status why = 10 + cc_fault_number why

-- of a text that is not a name, or of a failed allocation
abbrev pub name_status : NameFault → ℕ
name_status fault.NoRealm = 21
name_status fault.LoneBackslash = 22
name_status fault.SecondAt = 23
name_status fault.SlashInRealm = 24
name_status fault.NoMemory = 1

-- of a refusal
abbrev pub code_status : Code → ℕ
code_status code = 30 + code_number code

-- of a refusal, or of a failed allocation
abbrev pub refusal_status : Refusal → ℕ
refusal_status (refusal.Code code) = code_status code
refusal_status refusal.NoMemory = 1

-- a change returns 0 and has its result, or returns why it is refused and changes nothing
abbrev pub Changes : {S : Type 0} → Result S Code → S → ℕ → S → Type 0
Changes (Ok given) old status new = (status ≡ 0) × (new ≡ given)
Changes (Err why) old status new = (status ≡ code_status why) × (new ≡ old)

-- so does a rewrite, but if it is not refused it may be out of memory, and then it changes nothing
abbrev pub Rewrites : {S : Type 0} → Result S Code → S → ℕ → S → Type 0
Rewrites (Ok given) old status new = ((status ≡ 0) × (new ≡ given)) ⊎ ((status ≡ 1) × (new ≡ old))
Rewrites (Err why) old status new = (status ≡ code_status why) × (new ≡ old)

-- an addition is refused with this status, and changes neither the place nor the store
abbrev pub Refuses : {S : Type 0} → ℕ → S → ℕ → ℕ → ℕ → S → Type 0
Refuses why old status place new_place new = (status ≡ why) × (new_place ≡ place) × (new ≡ old)

-- an addition returns 0 and reports the place, or it is refused
abbrev pub AddsOr : {S : Type 0} → Result (ℕ × S) Code → S → ℕ → ℕ → ℕ → S → Type 0
AddsOr (Ok given) old status place new_place new = (status ≡ 0) × (given ≡ (new_place, new))
AddsOr (Err why) old status place new_place new = Refuses (code_status why) old status place new_place new

-- an addition returns 0 and reports the place; or it is refused, or out of memory
abbrev pub Adds : {S : Type 0} → Result (ℕ × S) Code → S → ℕ → ℕ → ℕ → S → Type 0
Adds given old status place new_place new = AddsOr given old status place new_place new ⊎ Refuses 1 old status place new_place new

-- the number of the fault after the last sound cell: 0 if there is none
abbrev pub kind_number : Option Fault → ℕ
kind_number None = 0
kind_number (Some fault) = fault_number fault.kind
