-- Why a file did not open as what it was to be.
use Rattle.std.specs.Prelude.{ℕ, List, codes, Bool, true, false, if◌then◌else◌}
use Rattle.krb_keytab.specs.declared.open.KtOpenFault.TheVariants as kt
use Rattle.krb_keytab.specs.Open.{open_fault_number as kt_number, open_fault_phrase as kt_phrase}
use Rattle.krb_ccache.specs.declared.open.CcOpenFault.TheVariants as cc
use Rattle.krb_ccache.specs.Open.{open_fault_number as cc_number, open_fault_phrase as cc_phrase}
use Rattle.krb_driver.specs.declared.beginning.Beginning.{Beginning}
use Rattle.krb_driver.specs.declared.beginning.Beginning.TheVariants as begins
use Rattle.krb_driver.specs.declared.not_opened.Expected.{Expected}
use Rattle.krb_driver.specs.declared.not_opened.Expected.TheVariants as expected
use Rattle.krb_driver.specs.declared.not_opened.NotOpened.{NotOpened}
use Rattle.krb_driver.specs.declared.not_opened.OpenFault.{OpenFault}
use Rattle.krb_driver.specs.declared.not_opened.OpenFault.TheVariants.{Keytab, Cache}
use Rattle.krb_driver.specs.Beginnings.{beginning_phrase}

-- the number of why an image is not a keytab, or not a cache
abbrev pub opening_number : OpenFault → ℕ
opening_number (Keytab fault) = kt_number fault
opening_number (Cache fault) = cc_number fault

-- the phrase for why an image is not a keytab, or not a cache
abbrev pub opening_phrase : OpenFault → List ℕ
opening_phrase (Keytab fault) = kt_phrase fault
opening_phrase (Cache fault) = cc_phrase fault

-- the first bytes of an image are not those of a keytab, or of a cache
abbrev pub is_bad_version : OpenFault → Bool
is_bad_version (Keytab kt.BadVersion) = true
is_bad_version (Cache cc.BadVersion) = true
is_bad_version fault = false

-- the phrase for a file that begins so, where it was to be opened as that; or another phrase
abbrev pub begun_phrase : Beginning → Expected → List ℕ → List ℕ
begun_phrase begins.Cache expected.Keytab other = codes "it begins as a credential cache"
begun_phrase begins.Cache expected.KeytabToList other = codes "it begins as a credential cache; list it without -k"
begun_phrase begins.Keytab expected.Cache other = codes "a keytab (list it with -k), or a cache of version 1 or 2 (not read)"
begun_phrase begins.Keytab expected.CacheToHold other = codes "a keytab (hold it with -k), or a cache of version 1 or 2 (not read)"
begun_phrase begins.Keytab expected.CacheToMatch other = codes "a keytab (KEYTAB comes first), or a cache of version 1 or 2 (not read)"
begun_phrase begins expected.Either other = beginning_phrase begins (codes "it does not begin as a keytab or a cache")
begun_phrase begins expected other = beginning_phrase begins other

-- the phrase for why a file did not open
abbrev pub not_opened_phrase : NotOpened → List ℕ
not_opened_phrase why =
    if is_bad_version why.fault then begun_phrase why.begins why.expected (opening_phrase why.fault) else opening_phrase why.fault
