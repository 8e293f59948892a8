-- What a file is that may be a keytab or a cache.
use Rattle.std.specs.Prelude.{ℕ, List, if◌then◌else◌, Option, Result}
use Rattle.krb_wire.specs.declared.format.Order.{Order}
use Rattle.krb_walk.specs.Store.{fault_of}
use Rattle.krb_keytab.specs.Store.{KeytabState, store_of}
use Rattle.krb_ccache.specs.Store.{CacheState, store_of as cache_store}
use Rattle.krb_files.specs.Loading.{Answer}
use Rattle.krb_driver.specs.declared.either.Contents.{Contents}
use Rattle.krb_driver.specs.declared.either.Contents.TheVariants as contents
use Rattle.krb_driver.specs.declared.not_opened.Expected.TheVariants as expected
use Rattle.krb_driver.specs.Beginnings.{begins_as, is_keytab}
use Rattle.krb_driver.specs.Loading.{by_load, opened_cache, opened_keytab, result_map}
use Rattle.krb_driver.specs.RunErrors.{Fault, RunError}

-- a keytab or a cache
pub data EitherState : Type 0 where
  OfKeytab : KeytabState → EitherState
  OfCache : CacheState → EitherState

abbrev pub state_of : {A : Type 0} → Contents A → EitherState
state_of (contents.Keytab keytab) = OfKeytab keytab.state
state_of (contents.Cache cache) = OfCache cache.state

-- the fault of a keytab or a cache, if the file is damaged
abbrev pub damage_of : EitherState → Option Fault
damage_of (OfKeytab k) = fault_of (store_of k)
damage_of (OfCache k) = fault_of (cache_store k)

-- the keytab or the cache in an image: one that begins as a keytab is opened as a keytab, and any other as a cache
abbrev pub contents_of : Order → List ℕ → Result EitherState RunError
contents_of order image =
    if is_keytab (begins_as image) then result_map OfKeytab (opened_keytab expected.Keytab order image)
    else result_map OfCache (opened_cache expected.Either image)

-- the keytab or the cache that a load gives, or the error
abbrev pub contents_in : Order → Answer → Result EitherState RunError
contents_in order = by_load (contents_of order)
