-- The lines of ktutil, one after the other, and their prompts.
use Rattle.krb_ktutil.proofs.Cited.{World, ◌≡◌, ℕ, Bool, true, false, List, [], ◌++◌, refl, Err, ErrorWatch, Prompts, Writes-nothing, PromptsOn, inl, inr, ◌+◌, ◌<◌, ◌≤◌, ◌∷◌, length, length-append, arith, max, Option, None, Ghosts, input_error, error_status, Grows, Talk, first_talk, ◌≢◌, ◌||◌, Consumes, InputParts, HasNoMore, IsWithin, most_bytes, EndsTalk, TalksOver, prompt_of, Source, is_failed, Order, LoadFault, HandlesNext, RunsKtutil, Details, nat_tests, ReportsEnd, ReadsLine, append_assoc, append-nil}
use Rattle.krb_files.specs.declared.files.LoadFault.TheVariants.{Missing, TooLarge}
use Rattle.krb_ktutil.proofs.InputLemmas.{HasRead, HasRead-end, HasRead-first, HasRead-line, consumed, consumed_as, due_of, if_some}

-- a prompt was written
pub Prompts-first : (prompts : Bool) (prompt : List ℕ) (old new : ErrorWatch) → PromptsOn prompts prompt old new → Prompts prompts prompt old new
Prompts-first prompts prompt old new on = on old [] (grind (arith, Writes-nothing))

-- ---- the lines of ktutil, one after the other

-- lines were run, and the run goes on
pub record Underway {F : Type 0} (trait : Ghosts F) (prompts : Bool) (now : ℕ) (given : Option (List ℕ)) (first : Talk F) (input : InputParts) (left : Option (List ℕ)) (number : ℕ) (talk : Talk F) : Type 0 where
  pub lines : List (List ℕ)
  pub talked : (more : List (List ℕ)) (end : Talk F) → TalksOver trait now prompts (number + 1) more talk end → TalksOver trait now prompts 1 (lines ++ more) first end
  pub counted : number ≡ length lines
  pub has_read : HasRead given lines input left
  pub consumes : Consumes given left input.read
  pub within : IsWithin input
  pub below : number ≤ input.next

module _ {F : Type 0} (trait : Ghosts F) (prompts : Bool) (now : ℕ) (given : Option (List ℕ)) where
  pub Underway-first : (first : Talk F) → (input : InputParts) → input ≡ record { read = []; line = []; next = 0 } → Underway trait prompts now given first input given 0 first
  Underway-first first input is = rw is (record {
    lines = [];
    talked = λ more end others. others;
    counted = refl;
    has_read = inl (record { within = omega arith; read = refl; none = tt });
    consumes = grind arith;
    within = record { next = omega arith; most = omega arith };
    below = omega arith;
  })

  pub Underway-line : (first : Talk F) (old new : InputParts) (left left' : Option (List ℕ)) (number : ℕ) (talk talk' : Talk F) (asked : ErrorWatch) → Underway trait prompts now given first old left number talk
      → ReadsLine true old new left' → Grows old.read new.read left left' → IsWithin new
      → Prompts prompts (prompt_of talk.state.awaiting) talk.err asked → HandlesNext trait now (number + 1) new.line (record talk { err = asked }) talk' true
      → Underway trait prompts now given first new left' (number + 1) talk'
  Underway-line first old new left left' number talk talk' asked u reads grows within prompted continues =
      let counted = u.counted in
      let further : old.next < new.next = grind (arith, nat_tests, reads.further) in
      record {
        lines = u.lines ++ new.line ∷ [];
        talked = λ more end others. rw append_assoc (u.talked (new.line ∷ more) end (asked, talk', prompted, continues, others));
        counted = omega (arith, counted, length-append u.lines (new.line ∷ []));
        has_read = HasRead-line given left left' u.lines old new u.within u.consumes grows reads within u.has_read;
        consumes = consumed given left left' u.lines old new u.within u.consumes grows;
        within = within;
        below = omega (arith, u.below, further);
      }

module _ {F R W E : Type 0} {trait : Ghosts F} {prompts : Bool} {now : ℕ} {order : Order} (world : World F R W E) (last : Source) {old new : InputParts} {left : Option (List ℕ)} {number : ℕ} {talk : Talk F}
    (u : Underway trait prompts now world.input.left (first_talk order world.files world.out world.err) old left number talk) (grows : Grows old.read new.read left last.left) (within : IsWithin new) where
  consumes : Consumes world.input.left last.left new.read
  consumes = consumed world.input.left left last.left u.lines old new u.within u.consumes grows

  talked : TalksOver trait now prompts 1 u.lines (first_talk order world.files world.out world.err) talk
  talked = rw append-nil at (u.talked [] talk refl)

  runs : (end : Talk F) → EndsTalk trait now prompts world.input last u.lines talk end → RunsKtutil trait order prompts now world (record { files = end.files; input = last; out = end.out; err = end.err }) end.status
  runs end ends = record {
    lines = u.lines;
    last = talk;
    state = end.state;
    talked = talked;
    ends = ends;
    taken = record { taken = new.read; consumes = consumes; bound = within.most };
  }

  -- the input has ended
  pub RunsKtutil-after : (err' : ErrorWatch) → Prompts prompts (prompt_of talk.state.awaiting ++ 10 ∷ []) talk.err err' → ReadsLine false old new last.left → last.failed ≡ world.input.failed → RunsKtutil trait order prompts now world (record { files = talk.files; input = last; out = talk.out; err = err' }) talk.status
  RunsKtutil-after err' prompted reads well =
      runs (record talk { err = err' }) (inl (record { all = HasRead-end world.input.left left last.left u.lines old new u.within u.consumes grows reads u.has_read; well = well; prompted = prompted; same = refl }))

  -- a line was the last
  pub RunsKtutil-in_line : (talk' : Talk F) (asked : ErrorWatch) → Prompts prompts (prompt_of talk.state.awaiting) talk.err asked → ReadsLine true old new last.left → last.failed ≡ world.input.failed → HandlesNext trait now (number + 1) new.line (record talk { err = asked }) talk' false
      → RunsKtutil trait order prompts now world (record { files = talk'.files; input = last; out = talk'.out; err = talk'.err }) talk'.status
  RunsKtutil-in_line talk' asked prompted reads well stops =
      let has_read = HasRead-line world.input.left left last.left u.lines old new u.within u.consumes grows reads within u.has_read in
      runs talk' (inr (inl (record {
        line = new.line;
        first = HasRead-first world.input.left (u.lines ++ new.line ∷ []) new last.left has_read consumes;
        well = well;
        asked = asked;
        prompted = prompted;
        stops = rw u.counted at stops;
      })))

  -- the input was not read further
  pub RunsKtutil-unread : (fault : LoadFault) (details : Details) (asked err' : ErrorWatch) (status : ℕ) → Prompts prompts (prompt_of talk.state.awaiting) talk.err asked
      → HasNoMore old new → last.failed ≡ (is_failed fault || world.input.failed) → fault ≢ Missing → (fault ≡ TooLarge → most_bytes < length new.read)
      → ReportsEnd [] None details (Err (input_error fault)) asked err' → details.aftermath ≡ None → status ≡ max talk.status (error_status (input_error fault)) → RunsKtutil trait order prompts now world (record { files = talk.files; input = last; out = talk.out; err = err' }) status
  RunsKtutil-unread fault details asked err' status prompted no_more failed never too_large writes untold worst =
      runs (record { files = talk.files; state = talk.state; out = talk.out; err = err'; status = status }) (inr (inr (record {
        fault = fault;
        first = HasRead-first world.input.left u.lines old left u.has_read u.consumes;
        never = never;
        too_large = λ e. if_some world.input.left (λ bytes c. rw c.1.1 (omega (arith, too_large e, length-append new.read c.0))) (consumed_as world.input.left last.left new.read consumes);
        failed = failed;
        read = new.read;
        consumes = consumes;
        due = elim u.has_read [ inl ended ↦ inl (due_of world.input.left left last.left u.lines old new u.within u.consumes grows no_more ended) | inr all ↦ inr (if_some world.input.left (λ bytes is. is.0) all) ];
        asked = asked;
        prompted = prompted;
        details = details;
        writes = writes;
        untold = untold;
        worst = worst;
        files = refl;
        out = refl;
      })))
