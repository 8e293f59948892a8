-- Which keytab is opened for C, and which is created.
use Rattle.std.specs.Prelude.{◌≡◌, ◌⊎◌, ℕ, zero, suc, List, Option, Some, None}
use Rattle.krb_wire.specs.declared.format.Order.{Order}
use Rattle.krb_wire.specs.declared.format.Order.TheVariants.{Big, Little}
use Rattle.krb_wire.specs.declared.format.KtFormat.TheVariants.{V2}
use Rattle.krb_keytab.specs.Store.{open_result, empty}
use Rattle.krb_c.specs.declared.handle.Handle.{Handle}
use Rattle.krb_c.specs.Held.{keytab_of}
use Rattle.krb_c.specs.Opens.{OpensNone, Opens}
use Rattle.krb_c.specs.Status.{kt_open_status}

-- the byte order of version 1: 0 is little-endian
abbrev pub order_of_flag : ℕ → Order
order_of_flag zero = Little
order_of_flag (suc n) = Big

-- the keytab of an image is opened with a limit; 13 if it is not a limit
abbrev pub OpensImage : ℕ → List ℕ → Option ℕ → ℕ → Handle → Type 0
OpensImage v1_big image (Some limit) status kt = Opens kt_open_status (open_result (order_of_flag v1_big) limit image) status (keytab_of kt) kt
OpensImage v1_big image None status kt = OpensNone 13 status kt

-- a keytab of version 2 without entries is created with a limit; 13 if it is not a limit
abbrev pub Makes : Option ℕ → ℕ → Handle → Type 0
Makes (Some limit) status kt = ((status ≡ 0) × (keytab_of kt ≡ Some (empty V2 limit))) ⊎ OpensNone 1 status kt
Makes None status kt = OpensNone 13 status kt
