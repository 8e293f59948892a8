-- The failures that replies report, and the verdict of a run that printed them.
use Rattle.std.specs.Prelude.{ℕ, List, fold, replicate, if◌then◌else◌, Option, None, Some, is_some, slice_set, ◌+◌, ◌-◌}
use Rattle.std.specs.List.{list_any}
use Rattle.std.specs.Option.{option_map_or}
use Rattle.krb_walk.specs.Phrases.{code_number, fault_number}
use Rattle.krb_walk.specs.ReplyContent.{ReplyContent, Refused, Faulted}
use Rattle.krb_driver.specs.declared.reporting.reported.Failure.{Failure}
use Rattle.krb_driver.specs.declared.reporting.reported.Failure.TheVariants as failure
use Rattle.krb_driver.specs.declared.verdict.FileKind.{FileKind}
use Rattle.krb_driver.specs.declared.verdict.Verdict.{Verdict}
use Rattle.krb_driver.specs.declared.verdict.Verdict.TheVariants.{Well, Replied}

-- the failure that a reply reports: a refusal, or a fault that a walk came to
abbrev pub failure_of : ReplyContent → Option Failure
failure_of (Refused code) = Some (failure.Refused code)
failure_of (Faulted walk fault) = Some (failure.Faulted fault.kind)
failure_of other = None

-- the place of a failure in the list of all: refusals first, then faults, by their numbers
abbrev pub place_of : Failure → ℕ
place_of (failure.Refused code) = code_number code - 1
place_of (failure.Faulted kind) = 10 + fault_number kind

-- the failures that were reported, with that of one reply more
abbrev pub with_reply : List (Option Failure) → ReplyContent → List (Option Failure)
with_reply failures reply = option_map_or (λ f. slice_set failures (place_of f) (Some f)) (failure_of reply) failures

-- the failures that replies report, each at its place
abbrev pub failures : List ReplyContent → List (Option Failure)
failures replies = fold with_reply (replicate 15 None) replies

-- the verdict of a run that printed replies: whether one of them reports a failure
abbrev pub replied_verdict : FileKind → List ReplyContent → Verdict
replied_verdict kind replies =
    if list_any is_some (failures replies) then Replied (record { kind = kind; failures = failures replies; hidden_from = None }) else Well
