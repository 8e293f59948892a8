-- What files of a few bytes do not show of keytabs and caches, and what the library alone does.
use Rattle.samples.proofs.Cited.{refl, ◌≡◌, ℕ, List, [], ◌∷◌, ◌++◌, codes, replicate, map, Some, None, option_map, Ok, Err, true, false, pos, negsuc, most_bytes, open_result, V2, Little, result_map_both, result_ok, start_reply, Started, Placed, Refused, Gave, Ended, Gone, create_result, cache_image}
use Rattle.krb_walk.specs.declared.event.Event.TheVariants.{Start, Resume, Step, Put, Cut}
use Rattle.krb_walk.specs.declared.refusal.Code.TheVariants.{TooManyWalks, Marked, NotAPlace, NotLive}
use Rattle.krb_keytab.specs.declared.open.KtOpenFault.TheVariants.{TooLarge}
use Rattle.krb_keytab.specs.Changes.{put_result, is_refused, takes_none}
use Rattle.krb_keytab.specs.Entry.{EntryParts}
use Rattle.krb_keytab.specs.Form.{fits}
use Rattle.krb_ccache.specs.Config.{config_of}
use Rattle.krb_ccache.specs.Store.{image_of as cache_image}
use Rattle.samples.proofs.Given.{hex, keytab, cache, name, cache_replies, host, front, ticket, pa_type, removed, worked}
use Rattle.samples.proofs.Unfolded.{on_literals}

-- ---- limits

-- an image longer than the limit is refused
too-large : open_result Little 2 (hex (codes "050200")) ≡ Err TooLarge
unfolding on_literals
too-large = refl

-- the entry of `b`
abbrev entry : EntryParts
entry = record { principal = name (codes "b@R"); timestamp = 1700000000; version = 3; enctype = 17; key = hex (codes "101112131415161718191a1b1c1d1e1f") }

-- an addition is refused if the image would be longer than the limit, and not if it would be as long: alone, after an entry, and at an end mark
full : map {A = ℕ × List ℕ} (λ x. option_map (λ k. is_refused (put_result k entry)) (result_ok (open_result Little x.0 (hex (codes "0502") ++ x.1))))
    ((46, []) ∷ (47, []) ∷ (97, host) ∷ (98, host) ∷ (50, replicate 4 0) ∷ (51, replicate 4 0) ∷ [])
    ≡ Some true ∷ Some false ∷ Some true ∷ Some false ∷ Some true ∷ Some false ∷ []
unfolding on_literals
full = refl

-- it takes no memory if a hole takes it, or if the image does not become longer, since what is behind an end mark goes
no-growth : map (λ rest. takes_none (keytab (hex (codes "0502") ++ rest)) entry) ([] ∷ (hex (codes "ffffffd1") ++ replicate 47 0) ∷ (replicate 4 0 ++ replicate 45 255) ∷ (host ++ (replicate 4 0 ++ replicate 45 255)) ∷ [])
    ≡ false ∷ true ∷ true ∷ true ∷ []
unfolding on_literals
no-growth = refl

-- a key of 65,536 bytes is too long, and so is a realm or a component
too-long : map (λ n. fits V2 (record { principal = name (codes "b@R"); timestamp = 0; version = 1; enctype = 17; key = replicate n 0 })) (65535 ∷ 65536 ∷ [])
    ≡ true ∷ false ∷ []
unfolding on_literals
too-long = refl

-- there are 1,024 walks at most
walks : (start_reply (replicate 1023 2) 2 ≡ Started 1023 2) × (start_reply (replicate 1024 2) 2 ≡ Refused TooManyWalks)
unfolding on_literals
walks = (refl, refl)

-- ---- caches

-- a value is found by its key and its principal, and not by its key alone
value : map (config_of (cache worked) (codes "pa_type")) (Some (codes "krbtgt/R@R") ∷ None ∷ [])
    ≡ Some (codes "2") ∷ None ∷ []
unfolding on_literals
value = refl

-- a walk that is at the end gives what is appended then; none is appended with the removed mark; a walk begins at a removed one, not within it
walked : cache_replies worked (Start ∷ Step 0 ∷ Step 0 ∷ Cut 40 ∷ Step 0 ∷ (map Put (cache (front ++ (ticket ++ removed))).contents.cells ++ (Step 0 ∷ Resume 285 ∷ Resume 284 ∷ Step 1 ∷ Cut 284 ∷ [])))
    ≡ Started 0 40 ∷ Gave 0 40 148 ticket ∷ Gave 0 148 284 pa_type ∷ Gone 40 ∷ Ended 0 392 ∷ Placed 392 ∷ Refused Marked ∷ Gave 0 392 500 ticket ∷ Refused NotAPlace ∷ Started 1 284 ∷ Gave 1 392 500 ticket ∷ Refused NotLive ∷ []
unfolding on_literals
walked = refl

-- a new cache has a header of no fields, or of the time offset
new-cache : map (λ given. result_map_both cache_image (λ code. code) (create_result (name (codes "u@R")) given most_bytes)) (None ∷ Some (record { seconds = pos 5; micros = negsuc 9 }) ∷ [])
    ≡ Ok (hex (codes "05040000000000010000000100000001520000000175")) ∷ Ok (hex (codes "0504000c0001000800000005fffffff6000000010000000100000001520000000175")) ∷ []
unfolding on_literals
new-cache = refl
