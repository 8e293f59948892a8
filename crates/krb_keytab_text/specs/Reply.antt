-- Replies of a session as lines of text.
use Rattle.std.specs.Prelude.{ℕ, List, [], ◌∷◌, ◌++◌, decimal, codes, Option, None, Some}
use Rattle.krb_wire.specs.declared.format.KtFormat.{KtFormat}
use Rattle.krb_walk.specs.Phrases.{code_number}
use Rattle.krb_walk.specs.ReplyContent.{ReplyContent, Started, Gave, Ended, Faulted, Placed, Gone, Rewritten, Refused}
use Rattle.krb_keytab.specs.Entry.{EntryParts, entry_at}
use Rattle.krb_keytab_text.specs.Listing.{entry_tail}
use Rattle.krb_text.specs.FaultLine.{fault_text}

-- the line of a reply about a walk: the walk's number, and the rest of the line
abbrev pub walk_line : ℕ → List ℕ → List ℕ
walk_line walk rest = codes "walk " ++ (decimal walk ++ rest)

-- a line with a label and a number
abbrev pub number_line : List ℕ → ℕ → List ℕ
number_line label n = label ++ (decimal n ++ codes "\n")

-- the line of a reply; that of a record which a walk is given ends with the record's entry or credential
abbrev pub reply_text_by : {F : Type 0} → (F → List ℕ → List ℕ) → F → ReplyContent → List ℕ
reply_text_by tail_of f (Started w next) = walk_line w (number_line (codes " at ") next)
reply_text_by tail_of f (Gave w place next bytes) =
    walk_line w (codes " gave " ++ (decimal place ++ (codes " next " ++ (decimal next ++ tail_of f bytes))))
reply_text_by tail_of f (Ended w next) = walk_line w (number_line (codes " end ") next)
reply_text_by tail_of f (Faulted w fault) = walk_line w (codes " " ++ fault_text fault)
reply_text_by tail_of f (Placed place) = number_line (codes "placed ") place
reply_text_by tail_of f (Gone place) = number_line (codes "gone ") place
reply_text_by tail_of f (Rewritten end) = number_line (codes "rewritten ") end
reply_text_by tail_of f (Refused code) = number_line (codes "refused ") (code_number code)

-- the format of a store after a reply: a rewrite makes it the newest
abbrev pub format_after_by : {F : Type 0} → F → F → ReplyContent → F
format_after_by rewritten f (Rewritten end) = rewritten
format_after_by rewritten f other = f

-- the lines of replies, in order
abbrev pub reply_texts_by : {F : Type 0} → (F → List ℕ → List ℕ) → F → F → List ReplyContent → List ℕ
reply_texts_by tail_of rewritten f [] = []
reply_texts_by tail_of rewritten f (reply ∷ replies) =
    reply_text_by tail_of f reply ++ reply_texts_by tail_of rewritten (format_after_by rewritten f reply) replies

-- ---- of a keytab

-- the end of the line of a record: its entry
abbrev pub given_tail : Option EntryParts → List ℕ
given_tail None = codes "\n"
given_tail (Some e) = entry_tail e

-- the end of the line of a record with these bytes in a keytab of a format
abbrev pub record_tail : KtFormat → List ℕ → List ℕ
record_tail f bytes = given_tail (entry_at f bytes)

-- the line of a reply; a record's bytes are read in the format
abbrev pub reply_text : KtFormat → ReplyContent → List ℕ
reply_text f reply = reply_text_by record_tail f reply
