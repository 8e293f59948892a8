-- A text that was not read as a name is refused with the status that says why.
use Rattle.krb_c.proofs.Cited.{◌≡◌, refl, subst, inl, inr, ◌⊎◌, ℕ, Result, Ok, Err, IsOk, Parts, name_status}
use Rattle.krb_wire.specs.declared.name_fault.NameFault.{NameFault}
use Rattle.krb_wire.specs.declared.name_fault.NameFault.TheVariants.{NoMemory}
use Rattle.krb_c.specs.Text.{ByName, IsUnread}

pub fault_is : (named : Result Parts NameFault) (fault : NameFault) → (named ≡ Err fault) ⊎ ((fault ≡ NoMemory) × IsOk named) → IsUnread named (name_status fault)
fault_is named fault (inl e) = rw e refl
fault_is (Ok name) fault (inr x) = rw x.0 refl
fault_is (Err other) fault (inr x) = let is_ok = x.1 in search

pub unread : (Does : Parts → Type 0) (Refuses : ℕ → Type 0) (named : Result Parts NameFault) (status : ℕ) → IsUnread named status → Refuses status → ByName Does Refuses named
unread Does Refuses (Ok name) status e refused = inr (subst Refuses e refused)
unread Does Refuses (Err fault) status e refused = subst Refuses e refused
