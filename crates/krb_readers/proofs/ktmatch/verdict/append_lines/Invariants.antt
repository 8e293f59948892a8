use Rattle.krb_readers.proofs.Cited.{◌≡◌, ◌++◌, take, flat_map, line_of}
use Rattle.krb_readers.proofs.ktmatch.verdict.append_lines.Given as goal

-- the lines of the tickets so far are appended
abbrev pub invariant-tickets : goal.invariant-tickets
invariant-tickets g l = l.out.items ≡ l.initial.out.items ++ flat_map (line_of l.quiet l.label) (take l.ticket-index l.tickets)
