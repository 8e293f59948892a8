-- The content of a reply, apart from where its bytes are in memory.
use Rattle.std.specs.Prelude.{ℕ, Bool, true, false, ◌==◌, List}
use Rattle.krb_walk.specs.declared.fault.Fault.{Fault}
use Rattle.krb_walk.specs.declared.refusal.Code.{Code}
use Rattle.krb_walk.specs.declared.event.Reply.{Reply}
use Rattle.krb_walk.specs.declared.event.Reply.TheVariants as reply

-- the replies of a session
pub data ReplyContent : Type 0 where
  Started : (walk next : ℕ) → ReplyContent
  Gave : (walk place next : ℕ) (bytes : List ℕ) → ReplyContent
  Ended : (walk next : ℕ) → ReplyContent
  Faulted : (walk : ℕ) (fault : Fault) → ReplyContent
  Placed : (place : ℕ) → ReplyContent
  Gone : (place : ℕ) → ReplyContent
  Rewritten : (end : ℕ) → ReplyContent
  Refused : (code : Code) → ReplyContent

-- the content of a reply
abbrev pub content_of : {A : Type 0} → Reply A → ReplyContent
content_of (reply.Started w n) = Started w n
content_of (reply.Gave w p n bytes) = Gave w p n bytes.items
content_of (reply.Ended w n) = Ended w n
content_of (reply.Faulted w f) = Faulted w f
content_of (reply.Placed p) = Placed p
content_of (reply.Gone p) = Gone p
content_of (reply.Rewritten p) = Rewritten p
content_of (reply.Refused c) = Refused c

-- a reply to a step of walk w: a record, the end or the fault
abbrev pub is_step_reply : ℕ → ReplyContent → Bool
is_step_reply w (Gave v p next bytes) = v == w
is_step_reply w (Ended v next) = v == w
is_step_reply w (Faulted v fault) = v == w
is_step_reply w other = false

-- a reply to a step of walk w says that no record is left: the end, or the fault
abbrev pub completes : ℕ → ReplyContent → Bool
completes w (Ended v next) = v == w
completes w (Faulted v fault) = v == w
completes w other = false

-- a record is given
abbrev pub is_gave : ReplyContent → Bool
is_gave (Gave w p next bytes) = true
is_gave other = false

-- a rewrite is accepted
abbrev pub is_rewritten : ReplyContent → Bool
is_rewritten (Rewritten p) = true
is_rewritten other = false

-- an addition is accepted
abbrev pub is_placed : ReplyContent → Bool
is_placed (Placed p) = true
is_placed other = false
