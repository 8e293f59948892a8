-- What a proof unfolds to compute the definitions of this crate, and of those that it uses, on literals.
use Rattle.krb_json.proofs.Cited.{⊤, escaped, text_from, check_members, about_members, check_value, refused_value, text_member, etype_members, file_members, party_members, time_members, flag_members, own_members, size_members, ticket_value, config_value, cache_members, cache_value, key_members, owner_members, entry_value, keytab_value, judgement_members, match_members, matches_value, ticket_numbers, name_members, summary_value}
use Rattle.json.proofs.OnLiterals.{json_on_literals}
use Rattle.krb_ccache.proofs.OnLiterals.{krb_ccache_on_literals}
use Rattle.krb_match.proofs.OnLiterals.{krb_match_on_literals}

unfoldable pub krb_json_on_literals : ⊤
unfolding json_on_literals krb_ccache_on_literals krb_match_on_literals escaped text_from text_member etype_members file_members party_members time_members flag_members own_members size_members ticket_value config_value cache_members cache_value summary_value key_members owner_members entry_value keytab_value check_members about_members name_members check_value refused_value ticket_numbers judgement_members match_members matches_value
krb_json_on_literals = tt
