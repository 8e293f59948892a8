-- The selected kvnos, for a pass over the entries of a keytab.
use Rattle.std.specs.Prelude.{◌≡◌, ℕ, List, map}
use Rattle.std.specs.Vec.Iter.{into_iter_items}
use Rattle.krb_keytab.specs.Find.{PlacedEntry}
use Rattle.krb_audit.specs.declared.selection.SelectedKvno.{SelectedKvno}
use Rattle.krb_audit.specs.declared.selection.SelectedKvno.TheVariants.{Any, Exactly}
use Rattle.krb_audit.specs.declared.versions.SelectedVersions.{SelectedVersions}
use Rattle.krb_audit.specs.declared.versions.SelectedVersions.TheVariants.{Each, This, Marked}
use Rattle.krb_audit.specs.Selection.{has_selected_kvno}

-- the prepared kvnos are the selected ones, for a pass over the entries `rest` among all
abbrev pub AreVersions : {A : Type 0} → SelectedKvno → ℕ → List PlacedEntry → List PlacedEntry → SelectedVersions A → Type 0
AreVersions kvno now all rest Each = kvno ≡ Any
AreVersions kvno now all rest (This version) = kvno ≡ Exactly version
AreVersions kvno now all rest (Marked marks) = into_iter_items marks ≡ map (λ x. has_selected_kvno kvno now all x.1) rest
