-- What files and the standard input give, and what is opened of it.
use Rattle.std.specs.Prelude.{◌≡◌, ◌⊎◌, ℕ, Bool, ◌||◌, List, [], Result, Ok, Err, is_some, if◌then◌else◌, Option, None, Some, ◌≢◌, ◌+◌, ◌<◌, ◌≤◌, length, IfOk, IfErr, IfSome, IsErrOf}
use Rattle.std.specs.Option.{option_map_or}
use Rattle.krb_wire.specs.declared.format.KtFormat.TheVariants.{V2}
use Rattle.krb_wire.specs.declared.format.Order.{Order}
use Rattle.krb_keytab.specs.Store.{KeytabState, empty, open_result, store_of}
use Rattle.krb_ccache.specs.Store.{CacheState, open_result as cache_result, store_of as cache_store}
use Rattle.krb_files.specs.declared.files.Files.{Ghosts}
use Rattle.krb_files.specs.declared.files.LoadFault.TheVariants as load
use Rattle.krb_files.specs.Loading.{LoadsFile, most_bytes, Answer}
use Rattle.krb_driver.specs.declared.error.RunError.TheVariants as error
use Rattle.krb_driver.specs.declared.opening.CacheUse.{CacheUse}
use Rattle.krb_driver.specs.declared.opening.CacheUse.TheVariants as cache_use
use Rattle.krb_driver.specs.declared.opening.KeytabUse.{KeytabUse}
use Rattle.krb_driver.specs.declared.opening.KeytabUse.TheVariants as keytab_use
use Rattle.krb_driver.specs.declared.not_opened.Expected.{Expected}
use Rattle.krb_driver.specs.declared.not_opened.Expected.TheVariants as expected
use Rattle.krb_driver.specs.declared.not_opened.OpenFault.{OpenFault}
use Rattle.krb_driver.specs.declared.not_opened.OpenFault.TheVariants as fault
use Rattle.krb_driver.specs.Beginnings.{begins_as}
use Rattle.krb_driver.specs.RunErrors.{LoadFault, RunError, Code, load_error}
use Rattle.krb_walk.specs.Store.{fault_of}
use Rattle.krb_walk.specs.declared.refusal.Code.TheVariants.{Damaged, ReadOnly}
use Rattle.krb_ccache.specs.Changes.{is_read_only}
use Rattle.krb_driver.specs.declared.verdict.FileKind.TheVariants.{Keytab, Cache}
use Rattle.krb_files.specs.declared.files.LoadFault.TheVariants.{Missing, TooLarge}
use Rattle.krb_files.specs.Bytes.{Source, ConsumesAtMost, is_read_fault}

-- ---- what a load gives

-- a result, with `view` of its value
abbrev pub result_map : {X Y E : Type 0} → (X → Y) → Result X E → Result Y E
result_map view (Ok x) = Ok (view x)
result_map view (Err e) = Err e

-- a result, with `why` of its error
abbrev pub result_map_err : {X E D : Type 0} → (E → D) → Result X E → Result X D
result_map_err why (Ok x) = Ok x
result_map_err why (Err e) = Err (why e)

-- the error for an image that begins so and does not open
abbrev pub not_opened : Expected → List ℕ → OpenFault → RunError
not_opened expected image fault = error.NotOpened (record { fault = fault; begins = begins_as image; expected = expected })

-- the keytab in an image, or the error
abbrev pub opened_keytab : Expected → Order → List ℕ → Result KeytabState RunError
opened_keytab expected order image = result_map_err (λ why. not_opened expected image (fault.Keytab why)) (open_result order most_bytes image)

-- the cache in an image, or the error
abbrev pub opened_cache : Expected → List ℕ → Result CacheState RunError
opened_cache expected image = result_map_err (λ why. not_opened expected image (fault.Cache why)) (cache_result most_bytes image)

-- ---- what files answer

-- the file of a name was loaded from the files `old`, which left `new`, and `given` is what is due for the result of the load, or memory ran out
pub record GivesOrIsSpent {F : Type 0} (trait : Ghosts F) (old : F) (name : List ℕ) {X : Type 0} (due : Answer → Result X RunError) (given : Result X RunError) (new : F) : Type 0 where
  pub answer : Answer
  pub loads : LoadsFile trait old name answer new
  pub gives : (given ≡ Err error.NoMemory) ⊎ (given ≡ due answer)

-- what a file gives if the load fails is that error, and if memory runs out too
pub record EndsLoads {X : Type 0} (gives : Answer → Result X RunError) : Type 0 where
  pub failed : gives (Err load.Failed) ≡ Err error.FileNotRead
  pub spent : gives (Err load.NoMemory) ≡ Err error.NoMemory

-- ---- what opened files give

-- what a load gives, once it is opened, or the load's error
abbrev pub by_load : {X : Type 0} → (List ℕ → Result X RunError) → Answer → Result X RunError
by_load opens (Ok image) = opens image
by_load opens (Err fault) = Err (load_error fault)

-- the keytab that a load gives, or the error
abbrev pub keytab_in : Order → Answer → Result KeytabState RunError
keytab_in order = by_load (opened_keytab expected.Keytab order)

-- the keytab that a load gives, to list it, or the error
abbrev pub listed_in : Order → Answer → Result KeytabState RunError
listed_in order = by_load (opened_keytab expected.KeytabToList order)

-- the keytab that a load gives, or an empty one for a missing file that is not to be saved in place, or the error
abbrev pub keytab_or_empty : Order → Bool → Answer → Result KeytabState RunError
keytab_or_empty order in_place (Err load.Missing) = if in_place then Err (load_error load.Missing) else Ok (empty V2 most_bytes)
keytab_or_empty order in_place answer = keytab_in order answer

-- the keytab that a load gives, or an empty one for a file of no bytes, or a missing one that is not to be saved in place, or the error
abbrev pub fresh_in : Order → Bool → Answer → Result KeytabState RunError
fresh_in order in_place (Ok []) = Ok (empty V2 most_bytes)
fresh_in order in_place answer = keytab_or_empty order in_place answer

-- the cache that a load gives, or the error
abbrev pub cache_of : Answer → Result CacheState RunError
cache_of = by_load (opened_cache expected.Cache)

-- the cache whose tickets are matched that a load gives, or the error
abbrev pub matched_in : Answer → Result CacheState RunError
matched_in = by_load (opened_cache expected.CacheToMatch)

-- what was opened, unless it refuses to be changed
abbrev pub unless_refused : {K : Type 0} → (Code → RunError) → (K → Option Code) → Result K RunError → Result K RunError
unless_refused why refusal (Ok k) = option_map_or (λ code. Err (why code)) (refusal k) (Ok k)
unless_refused why refusal (Err e) = Err e

-- why a keytab refuses to be changed: it is damaged
abbrev pub keytab_refusal : KeytabState → Option Code
keytab_refusal k = if is_some (fault_of (store_of k)) then Some Damaged else None

-- why a cache refuses to be changed: version 3 is read-only, or the cache is damaged
abbrev pub cache_refusal : CacheState → Option Code
cache_refusal k = if is_read_only k.version then Some ReadOnly else (if is_some (fault_of (cache_store k)) then Some Damaged else None)

-- the keytab that a load gives, to change it: it must not be damaged
unfoldable pub whole_in : Order → Answer → Result KeytabState RunError
whole_in order answer = unless_refused (error.Refused Keytab) keytab_refusal (keytab_in order answer)

-- the keytab that a load gives, to change it, where a file of no bytes, or a missing one that is not to be saved in place, gives an empty one; it must not be damaged
unfoldable pub whole_or_empty : Order → Bool → Answer → Result KeytabState RunError
whole_or_empty order in_place answer = unless_refused (error.Refused Keytab) keytab_refusal (fresh_in order in_place answer)

-- the cache that a load gives, to change it: it must be of version 4, and not damaged
unfoldable pub writable_in : Answer → Result CacheState RunError
writable_in answer = unless_refused (error.Refused Cache) cache_refusal (cache_of answer)

-- the keytab that a load gives for its use, by whether the file is to be saved in place
abbrev pub keytab_for : KeytabUse → Bool → Answer → Result KeytabState RunError
keytab_for (keytab_use.Read order) in_place = keytab_in order
keytab_for (keytab_use.List order) in_place = listed_in order
keytab_for (keytab_use.Edit order) in_place = keytab_or_empty order in_place
keytab_for (keytab_use.Change order) in_place = whole_in order
keytab_for (keytab_use.Fill order) in_place = whole_or_empty order in_place

-- the cache that a load gives for its use
abbrev pub cache_for : CacheUse → Answer → Result CacheState RunError
cache_for cache_use.Read = cache_of
cache_for cache_use.Match = matched_in
cache_for cache_use.Change = writable_in

-- ---- what the standard input gives

-- `input` is all that a reader had left, or why there is none: more than `most` bytes, a failure of the reader, or no memory
pub record GivesInput (most : ℕ) (reader reader' : Source) (input : Result (List ℕ) LoadFault) : Type 0 where
  pub all : IfOk input (λ bytes. IfSome reader.left (λ left. bytes ≡ left))
  pub within : IfOk input (λ bytes. length bytes ≤ most)
  pub too_large : IsErrOf input TooLarge → IfSome reader.left (λ left. most < length left)
  pub never : IfErr input (λ fault. fault ≢ Missing)
  pub failed : reader'.failed ≡ (is_read_fault input || reader.failed)
  pub taken : ConsumesAtMost reader.left reader'.left (most + 1)
