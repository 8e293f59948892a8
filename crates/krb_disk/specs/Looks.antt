-- What is seen of files, and of the devices that they are on.
use Rattle.std.specs.Prelude.{◌≡◌, ◌⊎◌, ℕ, Option, None, Some, bit_and, ◌+◌, ◌*◌, ◌/◌, ◌%◌, ◌^◌, ◌==◌, ◌&&◌, ◌||◌, Bool, if◌then◌else◌}
use Rattle.krb_files.specs.declared.node.Node.{Node}
use Rattle.krb_files.specs.declared.node.Node.TheVariants.{PlainFile, Folder, Other}
use Rattle.krb_disk.specs.declared.looks.Found.{Found}
use Rattle.krb_disk.specs.declared.looks.device.Device.{Device}
use Rattle.krb_disk.specs.declared.looks.device.Place.{Place}
use Rattle.krb_disk.specs.declared.looks.device.Mounted.{Mounted}

-- both are the same file
pub record IsSameFile (one other : Found) : Type 0 where
  pub device : one.device ≡ other.device
  pub inode : one.inode ≡ other.inode

-- both are the same file, unchanged; its type is a part of its mode
pub record IsUnchanged (old new : Found) : Type 0 where
  pub device : old.device ≡ new.device
  pub inode : old.inode ≡ new.inode
  pub mode : old.mode ≡ new.mode
  pub owner : old.owner ≡ new.owner
  pub group : old.group ≡ new.group
  pub size : old.size ≡ new.size

-- it is a plain file
abbrev pub IsPlain : Found → Type 0
IsPlain file = bit_and file.mode 0o170000 ≡ 0o100000

-- what it is, by the bits of its type
abbrev pub node_of : Found → Node
node_of file =
    let type = bit_and file.mode 0o170000 in
    if type == 0o100000 then PlainFile else (if type == 0o040000 then Folder else Other)

-- there is none, or it is a plain file
abbrev pub IsPlainOrNone : Option Found → Type 0
IsPlainOrNone None = Unit {0}
IsPlainOrNone (Some file) = IsPlain file

-- a killed run of one of these users may have left it: a plain file of one link that is one of theirs
pub record MayBeLeft (owner this : Option ℕ) (file : Found) : Type 0 where
  pub plain : IsPlain file
  pub single : file.links ≡ 1
  pub theirs : (Some file.owner ≡ owner) ⊎ (Some file.owner ≡ this)

-- ---- devices

-- the device of a number as Linux encodes it: from the lowest bit, 8 bits of the minor, 12 of the major, 24 of the minor and 20 of the major
abbrev pub device_number : ℕ → Device
device_number number = record {
  major = number / 2 ^ 8 % 2 ^ 12 + number / 2 ^ 44 * 2 ^ 12;
  minor = number % 2 ^ 8 + number / 2 ^ 20 % 2 ^ 24 * 2 ^ 8;
}

-- both are the same device
abbrev pub is_same_device : Device → Device → Bool
is_same_device one other = (one.major == other.major) && (one.minor == other.minor)

-- a lock on that device may be on the file's: it is the device in `stat` of the file, or the mount's, or, if the mount is unknown, both majors are 0
abbrev pub is_on_device : Device → Option Device → Device → Bool
is_on_device own (Some mount) device = is_same_device device own || is_same_device device mount
is_on_device own None device = is_same_device device own || ((device.major == 0) && (own.major == 0))

-- an inode is the file's: it is the one in `stat` of the file, or that by which its locks are listed
abbrev pub is_inode : ℕ → Option ℕ → ℕ → Bool
is_inode own (Some listed) inode = (inode == own) || (inode == listed)
is_inode own None inode = inode == own

-- that place is, or may be, the file's: its inode, on a device that may be the file's
abbrev pub is_place_of : Mounted → Place → Bool
is_place_of file place = is_inode file.inode file.listed.inode place.inode && is_on_device file.device file.listed.mount place.device
