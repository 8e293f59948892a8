use Rattle.krb_driver.proofs.Cited.{take, flat_map, Adds, word_line}
use Rattle.krb_driver.proofs.reporting.ending_words.add_word_lines.Given as goal

abbrev pub invariant-findings : goal.invariant-findings
invariant-findings g l = Adds l.initial.err l.initial.gathered.items l.err l.gathered.items (flat_map (word_line l.explained) (take l.finding-index l.findings))
