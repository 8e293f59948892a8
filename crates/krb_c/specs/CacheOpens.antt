-- Which cache is opened for C, and which is created.
use Rattle.std.specs.Prelude.{◌≡◌, ◌⊎◌, ℕ, List, Option, Some, None, Result, Err}
use Rattle.krb_wire.specs.Spelling.{Parts}
use Rattle.krb_wire.specs.declared.name_fault.NameFault.{NameFault}
use Rattle.krb_ccache.specs.declared.open.CcOpenFault.{CcOpenFault}
use Rattle.krb_ccache.specs.declared.open.CcOpenFault.TheVariants.{TooLarge, BadHeader, BadDefault}
use Rattle.krb_ccache.specs.Store.{CacheState, open_result}
use Rattle.krb_ccache.specs.Changes.{create_result}
use Rattle.krb_c.specs.declared.handle.Handle.{Handle}
use Rattle.krb_c.specs.Held.{cache_of}
use Rattle.krb_c.specs.Opens.{OpensNone, OpensOr, Opens, limit_of}
use Rattle.krb_c.specs.Status.{cc_open_status, code_status}
use Rattle.krb_c.specs.Text.{ByName}

-- the result of opening an image with a limit, if it is one
abbrev pub opened_within : List ℕ → Option ℕ → Result CacheState CcOpenFault
opened_within image None = Err TooLarge
opened_within image (Some limit) = open_result limit image

-- a fault that neither the length nor the version of an image shows
abbrev pub IsDeeper : CcOpenFault → Type 0
IsDeeper why = (why ≡ BadHeader) ⊎ (why ≡ BadDefault)

-- the cache of an image, with the limit that C passes, is opened
abbrev pub OpensImage : List ℕ → ℕ → ℕ → Handle → Type 0
OpensImage image limit status cc = Opens cc_open_status (opened_within image (limit_of limit)) status (cache_of cc) cc

-- a cache of a default principal is created with a limit; 13 if it is not a limit
abbrev pub Makes : Option ℕ → Result Parts NameFault → ℕ → Handle → Type 0
Makes (Some limit) named status cc =
    ByName (λ principal. OpensOr code_status (create_result principal None limit) status (cache_of cc) cc) (λ why. OpensNone why status cc) named
Makes None named status cc = OpensNone 13 status cc
