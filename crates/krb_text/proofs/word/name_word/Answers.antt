use Rattle.krb_text.proofs.NameFaults.{word_for_memory}
use Rattle.krb_text.proofs.word.name_word.Goals as goal

pub returns-in-Err-NoMemory : goal.returns-in-Err-NoMemory
returns-in-Err-NoMemory g c = word_for_memory c.args.word.now (rw c.in-Err-NoMemory.field-0-is at c.in-Err-NoMemory.ensures.err)
