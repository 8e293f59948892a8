use Rattle.krb_command_line.proofs.Cited.{◌≡◌, drop, mistake_after, mistake_behind, shadow, Utf8}
use Rattle.clap.specs.Words.{args_of}
use Rattle.krb_command_line.proofs.place.mistake_behind.Given as goal

-- the words to come have the mistake of all words
abbrev pub invariant-words : goal.invariant-words
invariant-words l = shadow (Utf8 l.last) × (mistake_after l.args l.place l.last (drop l.word-index l.words) ≡ mistake_behind (args_of l.command) l.words)
