-- The phrases that state why a file was not loaded or saved, or a text not written.
use Rattle.std.specs.Prelude.{ℕ, List, ◌++◌, codes, decimal, unsigned_abs}
use Rattle.krb_files.specs.declared.aftermath.Aftermath.{Aftermath}
use Rattle.krb_files.specs.declared.aftermath.Aftermath.TheVariants.{Restored, Damaged, LostChange, Mixed}
use Rattle.krb_files.specs.declared.cause.Cause.{Cause}
use Rattle.krb_files.specs.declared.cause.Cause.TheVariants.{PermissionDenied, NoDirectory, NoFile, NotADirectory, IsADirectory, NotAPlainFile, TooManyLinks, BadLink, NoName, NoSpace, QuotaExceeded, ReadOnly, MountPoint, NameTooLong, FileTooLarge, InputOutput, Interrupted, BrokenPipe, InUse, Changed, OtherFile, NameOfSaves, InTheWay, OwnerNotKept, NoLock, System}
use Rattle.krb_files.specs.declared.files.LoadFault.{LoadFault}
use Rattle.krb_files.specs.declared.files.LoadFault.TheVariants as load
use Rattle.krb_files.specs.declared.files.SaveFault.{SaveFault}
use Rattle.krb_files.specs.declared.files.SaveFault.TheVariants as save
use Rattle.krb_files.specs.declared.output.OutFault.{OutFault}
use Rattle.krb_files.specs.declared.output.OutFault.TheVariants as out

-- why a file was not loaded
abbrev pub load_phrase : LoadFault → List ℕ
load_phrase load.Missing = codes "no such file"
load_phrase load.TooLarge = codes "file too large"
load_phrase load.Failed = codes "cannot read"
load_phrase load.NoMemory = codes "out of memory"

-- why a file was not saved
abbrev pub save_phrase : SaveFault → List ℕ
save_phrase save.Failed = codes "cannot write"
save_phrase save.NoMemory = codes "out of memory"

-- why a text was not written
abbrev pub out_phrase : OutFault → List ℕ
out_phrase out.Write = codes "cannot write"
out_phrase out.NoMemory = codes "out of memory"

-- why a call failed; the number of an error without a phrase of its own follows this one
abbrev pub cause_phrase : Cause → List ℕ
cause_phrase PermissionDenied = codes "permission denied"
cause_phrase NoDirectory = codes "no such directory"
cause_phrase NoFile = codes "no such file"
cause_phrase NotADirectory = codes "not a directory"
cause_phrase IsADirectory = codes "is a directory"
cause_phrase NotAPlainFile = codes "not a plain file"
cause_phrase TooManyLinks = codes "too many links"
cause_phrase BadLink = codes "a link that cannot be followed"
cause_phrase NoName = codes "the file has no name any more"
cause_phrase NoSpace = codes "no space left"
cause_phrase QuotaExceeded = codes "quota exceeded"
cause_phrase ReadOnly = codes "read-only file system"
cause_phrase MountPoint = codes "a mount point cannot be replaced"
cause_phrase NameTooLong = codes "the name is too long"
cause_phrase FileTooLarge = codes "file too large for the file system"
cause_phrase InputOutput = codes "input/output error"
cause_phrase Interrupted = codes "interrupted"
cause_phrase BrokenPipe = codes "broken pipe"
cause_phrase InUse = codes "in use by another program"
cause_phrase Changed = codes "changed by another program; nothing was saved"
cause_phrase OtherFile = codes "another file has this name now"
cause_phrase NameOfSaves = codes "a name that ends in .krbfile is kept for saves"
cause_phrase InTheWay = codes "the name of its new file is taken"
cause_phrase OwnerNotKept = codes "the owner cannot be kept"
cause_phrase NoLock = codes "no lock can be had"
cause_phrase (System number) = codes "error "

-- the phrase, with the number after it, if there is one
abbrev pub cause_text : Cause → List ℕ
cause_text (System number) = codes "error " ++ decimal (unsigned_abs number)
cause_text cause = cause_phrase cause

-- the name that errno.h has for the cause of a failed call, or for what is closest
abbrev pub cause_name : Cause → List ℕ
cause_name PermissionDenied = codes "EACCES"
cause_name NoDirectory = codes "ENOENT"
cause_name NoFile = codes "ENOENT"
cause_name NotADirectory = codes "ENOTDIR"
cause_name IsADirectory = codes "EISDIR"
cause_name NotAPlainFile = codes "EINVAL"
cause_name TooManyLinks = codes "ELOOP"
cause_name BadLink = codes "EILSEQ"
cause_name NoName = codes "ESTALE"
cause_name NoSpace = codes "ENOSPC"
cause_name QuotaExceeded = codes "EDQUOT"
cause_name ReadOnly = codes "EROFS"
cause_name MountPoint = codes "EBUSY"
cause_name NameTooLong = codes "ENAMETOOLONG"
cause_name FileTooLarge = codes "EFBIG"
cause_name InputOutput = codes "EIO"
cause_name Interrupted = codes "EINTR"
cause_name BrokenPipe = codes "EPIPE"
cause_name InUse = codes "EAGAIN"
cause_name Changed = codes "ESTALE"
cause_name OtherFile = codes "ESTALE"
cause_name NameOfSaves = codes "EINVAL"
cause_name InTheWay = codes "EEXIST"
cause_name OwnerNotKept = codes "EPERM"
cause_name NoLock = codes "ENOLCK"
cause_name (System number) = codes "EIO"

-- what a save left behind, in words
abbrev pub aftermath_phrase : Aftermath → List ℕ
aftermath_phrase Restored = codes "the old bytes are back"
aftermath_phrase Damaged = codes "the file may be damaged"
aftermath_phrase LostChange = codes "a change of another program was lost"
aftermath_phrase Mixed = codes "another program wrote at the same time; the file may be damaged"

-- ---- the numbers of the errors of loads and saves

-- the number of an error of a load
abbrev pub load_number : LoadFault → ℕ
load_number load.Missing = 1
load_number load.TooLarge = 2
load_number load.Failed = 3
load_number load.NoMemory = 4

-- the number of an error of a save
abbrev pub save_number : SaveFault → ℕ
save_number save.Failed = 1
save_number save.NoMemory = 2
