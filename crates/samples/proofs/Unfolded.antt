-- What a proof unfolds to compute the definitions of krbfile's crates on literals.
use Rattle.samples.proofs.Cited.{⊤}
use Rattle.krb_cache_text.proofs.OnLiterals.{krb_cache_text_on_literals}
use Rattle.krb_json.proofs.OnLiterals.{krb_json_on_literals}
use Rattle.krb_copy.proofs.OnLiterals.{krb_copy_on_literals}
use Rattle.krb_driver.specs.Beginnings.{beginnings}
use Rattle.krb_driver.specs.EndingWords.{ending_words, found_fault_words}
use Rattle.krb_driver.specs.Runs.{near_words}
use Rattle.krb_driver.specs.Loading.{whole_in, whole_or_empty, writable_in}
use Rattle.krb_copy.specs.Diff.{diff_text}
use Rattle.krb_show.proofs.OnLiterals.{krb_show_on_literals}

unfoldable pub on_literals : ⊤
unfolding krb_cache_text_on_literals krb_json_on_literals krb_copy_on_literals krb_show_on_literals diff_text whole_in whole_or_empty writable_in beginnings ending_words found_fault_words near_words
on_literals = tt
