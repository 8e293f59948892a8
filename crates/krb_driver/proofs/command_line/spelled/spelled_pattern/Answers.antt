use Rattle.krb_driver.proofs.ForAnswers.{option_map, not_for_memory, mistake_of, no_fault, ◌∙◌, ap, None}
use Rattle.krb_names.specs.Patterns.{starred}
use Rattle.krb_driver.proofs.command_line.spelled.spelled_pattern.Goals as goal

-- a word that is a pattern has no mistake
pub returns-in-Err-NoMemory : goal.returns-in-Err-NoMemory
returns-in-Err-NoMemory c =
    let named = no_fault _ c.in-Err-NoMemory.field-0 c.in-Err-NoMemory.field-0-is (not_for_memory (starred c.args.word.now) None) (rw c.as_bytes.ensures.value at c.in-Err-NoMemory.ensures.err) in
    mistake_of _ _ ∙ ap (option_map _) named
