use Rattle.krb_editors.proofs.Cited.{arith, rules, ◌≡◌, ◌∙◌, inr, ℕ, Bool, false, List, length, ap, flat_map, CacheState, PlacedCredential, image_of, Effect, saves_unless, text, map, ◌++◌, ◌==◌, Well}
use Rattle.krb_driver.specs.Several.{label_of}
use Rattle.krb_audit.specs.Tickets.{selected_tickets, removed_ticket_line}
use Rattle.krb_editors.specs.Ccremove.{TicketRemoval, cache_after, removes}
use Rattle.krb_editors.proofs.ccremove.remove.Goals as goal

-- some tickets are selected, and they were removed
removed : (o : TicketRemoval) (several : Bool) (file : List ℕ) (k : CacheState) (xs : List PlacedCredential) (ps image lines : List ℕ) (effect : Effect)
    → ps ≡ map (λ x. x.0) xs → lines ≡ flat_map (λ x. label_of several file ++ removed_ticket_line x) xs → image ≡ image_of (cache_after k ps) → (length ps == 0) ≡ false → effect ≡ saves_unless o.dry_run file image lines Well → effect ≡ removes o several file k xs
removed o several file k xs ps image lines effect ps_are lines_are image_is some is = grind (arith, ps_are, lines_are, image_is, some, is)

pub returns : goal.returns
returns g c =
    let all = c.args.command.now in
    let o = all.options.now in
    let selected = c.in_ok-selected.ensures in
    inr (removed o all.are_several c.args.file.name.now c.args.cache.state (selected_tickets o.servers o.all_services all.ended_by c.args.cache.state) c.in_ok-selected.selected.places.items c.in_ok-image.image.items c.in_ok-selected.selected.text.items _
    selected.places selected.text (c.in_ok-image.ensures ∙ ap (λ (p : List ℕ). image_of (cache_after c.args.cache.state p)) c.deref.ensures.value) (search rules) (search rules))
