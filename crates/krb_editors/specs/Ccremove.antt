-- What ccremove does.
use Rattle.std.specs.Prelude.{ℕ, Bool, not, List, [], ◌++◌, ◌&&◌, ◌||◌, ◌==◌, map, length, codes, if◌then◌else◌, Option, None, Some, Result, Ok, ok_or}
use Rattle.std.specs.List.{flat_map, list_any}
use Rattle.krb_walk.specs.Events.{cut_store}
use Rattle.krb_ccache.specs.Changes.{without}
use Rattle.krb_ccache.specs.Rewrite.{rewrite_result}
use Rattle.krb_ccache.specs.Store.{CacheState, PlacedCredential, image_of, placed_credentials}
use Rattle.krb_names.specs.Asked.{AskedParts, asks_for_any}
use Rattle.krb_audit.specs.Tickets.{selected_tickets, names_ticket, removed_ticket_line}
use Rattle.krb_driver.specs.declared.error.RunError.TheVariants.{ClockNotRead}
use Rattle.krb_driver.specs.declared.verdict.FileKind.TheVariants.{Cache}
use Rattle.krb_driver.specs.declared.verdict.Verdict.{Verdict}
use Rattle.krb_driver.specs.declared.verdict.Verdict.TheVariants.{Well, NothingToRemove, Without}
use Rattle.krb_driver.specs.declared.error.RunError.{RunError}
use Rattle.krb_driver.specs.declared.file_name.FileName.{FileName}
use Rattle.krb_driver.specs.Commands.{Ends, CommandPlan, Effect, Displays, holds, opens, saves_unless, text}
use Rattle.krb_driver.specs.Mistakes.{Matched, MistakeParts, nothing_selects}
use Rattle.krb_driver.specs.Spelled.{◌>>=◌, ◌>>◌, spelled_asked}
use Rattle.krb_driver.specs.Loading.{result_map, writable_in}
use Rattle.krb_driver.specs.Several.{label_of}
use Rattle.krb_editors.specs.Selecting.{names_given}

-- what ccremove is asked for: tickets for these servers, of services alone, that have ended; whether it is no failure if there are none, and whether they are only listed
pub record TicketRemoval : Type 0 where
  pub servers : AskedParts
  pub all_services : Bool
  pub expired : Bool
  pub none_ok : Bool
  pub dry_run : Bool

-- the second by which the selected tickets have ended: with `--expired` that of the clock, and otherwise none
abbrev pub ended_by : TicketRemoval → Option ℕ → Result (Option ℕ) RunError
ended_by o now = if o.expired then result_map (λ second. Some second) (ok_or now ClockNotRead) else Ok None

-- a cache after the removal of tickets: they are removed and the cache is rewritten, so that their keys are not in the file any more
abbrev pub cache_after : CacheState → List ℕ → CacheState
cache_after k places = cut_store (without k places) (rewrite_result (without k places))

-- the verdict of ccremove if no ticket of a file is selected: all is well if that is no failure, and with `--expired` if nothing else is asked for, or a ticket that is asked for has not ended; else `refused 9`, reported at the end of several files
abbrev pub none_verdict : Bool → TicketRemoval → Bool → Verdict
none_verdict are_several o named =
    if o.none_ok || (o.expired && ((asks_for_any o.servers && not o.all_services) || named)) then Well
    else (if are_several then Without else NothingToRemove Cache)

-- what ccremove does with a cache: the tickets are removed, if there are any, and a line is printed for each
abbrev pub removes : TicketRemoval → Bool → List ℕ → CacheState → List PlacedCredential → Effect
removes o are_several file k xs =
    if length (map (λ x. x.0) xs) == 0 then Displays file (text [] (none_verdict are_several o (list_any (λ x. names_ticket o.servers o.all_services x.1) (placed_credentials k))))
    else saves_unless o.dry_run file (image_of (cache_after k (map (λ x. x.0) xs))) (flat_map (λ x. label_of are_several file ++ removed_ticket_line x) xs) Well

-- the plan of ccremove for a file, one of several or not: the file is held, unless it is a dry run, and opened as a cache; the selected tickets are removed
abbrev pub ccremove_plan : TicketRemoval → Option ℕ → Bool → FileName → CommandPlan
ccremove_plan o ended are_several file =
    holds (not o.dry_run) file (opens file writable_in (λ k. Ends (removes o are_several file.name.now k (selected_tickets o.servers o.all_services ended k))))

-- ---- what the words ask for

-- nothing selects tickets
abbrev pub odd_tickets : Matched → Option MistakeParts
odd_tickets words =
    if names_given words (codes "service") || (words.flag (codes "all-services") || words.flag (codes "expired")) then None
    else Some (nothing_selects (codes "-p, --match, --all-services or --expired"))

-- what the words of ccremove ask for, or their first mistake
abbrev pub ticket_removal_of : Matched → Result TicketRemoval MistakeParts
ticket_removal_of words = do
  odd_tickets words
  servers ← spelled_asked words (codes "service")
  Ok (record { servers = servers; all_services = words.flag (codes "all-services"); expired = words.flag (codes "expired"); none_ok = words.flag (codes "none-ok"); dry_run = words.flag (codes "dry-run") })
