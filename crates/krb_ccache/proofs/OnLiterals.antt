-- What a proof unfolds to compute the definitions of this crate, and of those that it uses, on literals.
use Rattle.krb_ccache.proofs.Cited.{⊤, typed_data_at, typed_list_at, key_at, times_at, credential_at, field_at, header_at}
use Rattle.krb_cells.proofs.OnLiterals.{krb_cells_on_literals}
use Rattle.krb_ccache.specs.Credentials.{times_from}
use Rattle.krb_ccache.specs.Der.{long_length, length_at, element_at, element_in, strings_in, integer_in, integer_at}
use Rattle.krb_ccache.specs.Rewrite.{after_first_enctype}
use Rattle.krb_ccache.specs.Ticket.{kvno_at, encrypted_data, ticket_in, ticket_encryption, server_in, ticket_server}

unfoldable pub krb_ccache_on_literals : ⊤
unfolding krb_cells_on_literals typed_data_at typed_list_at key_at times_at credential_at field_at header_at times_from after_first_enctype
    long_length length_at element_at element_in strings_in integer_in integer_at kvno_at encrypted_data ticket_in ticket_encryption
    server_in ticket_server
krb_ccache_on_literals = tt
