-- The mode of a file that replaces another.
use Rattle.std.specs.Prelude.{◌≡◌, ℕ, ◌/◌, ◌%◌, ◌<◌, Bool, true, false, IsTrue, IsFalse, bit_and}

-- what the owner may do, in three bits
abbrev pub owner_rights : ℕ → ℕ
owner_rights mode = mode / 64 % 8

-- what the group may do
abbrev pub group_rights : ℕ → ℕ
group_rights mode = mode / 8 % 8

-- what the others may do
abbrev pub other_rights : ℕ → ℕ
other_rights mode = mode % 8

-- what the group may do with the new file: nothing if the group changes, and if the owner changes, no more than the owner could
abbrev pub new_group_rights : Bool → Bool → ℕ → ℕ
new_group_rights has_owner false mode = 0
new_group_rights true true mode = group_rights mode
new_group_rights false true mode = bit_and (group_rights mode) (owner_rights mode)

-- what the others may do with it: no more than anyone who is one of them now could before
abbrev pub new_other_rights : Bool → Bool → ℕ → ℕ
new_other_rights true true mode = other_rights mode
new_other_rights false true mode = bit_and (other_rights mode) (owner_rights mode)
new_other_rights true false mode = bit_and (other_rights mode) (group_rights mode)
new_other_rights false false mode = bit_and (bit_and (other_rights mode) (group_rights mode)) (owner_rights mode)

-- the new mode: the whole old one if owner and group are kept, and otherwise only rights, as far as they may stay
pub record IsNewMode (has_owner has_group : Bool) (old new : ℕ) : Type 0 where
  pub same : IsTrue has_owner → IsTrue has_group → new ≡ old % 4096
  pub owner : owner_rights new ≡ owner_rights old
  pub group : group_rights new ≡ new_group_rights has_owner has_group old
  pub others : other_rights new ≡ new_other_rights has_owner has_group old
  pub no_set_uid : IsFalse has_owner → new < 512
  pub no_set_gid : IsFalse has_group → new < 512

-- these rights are a subset of those
abbrev pub IsWithin : ℕ → ℕ → Type 0
IsWithin these those = bit_and these those ≡ these

-- nobody but the new owner may do more than before: an old owner is then in the group or one of the others, a member of the old group is one of the others
pub record GivesNoMore (has_owner has_group : Bool) (old new : ℕ) : Type 0 where
  pub group : IsWithin (group_rights new) (group_rights old)
  pub others : IsWithin (other_rights new) (other_rights old)
  pub was_owner_in_group : IsFalse has_owner → IsWithin (group_rights new) (owner_rights old)
  pub was_owner : IsFalse has_owner → IsWithin (other_rights new) (owner_rights old)
  pub new_group : IsFalse has_group → group_rights new ≡ 0
  pub was_in_group : IsFalse has_group → IsWithin (other_rights new) (group_rights old)
