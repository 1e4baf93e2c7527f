-- Which answers of named disks are faults that they count.
use Rattle.std.specs.Prelude.{Bool, true, false, Result, Ok, Err}
use Rattle.named_disks.specs.declared.disks.DisksFault.{DisksFault}
use Rattle.named_disks.specs.declared.disks.DisksFault.TheVariants.{Absent, InUse, Failed, Memory}

-- the disks failed, or another process has the disk; an absent name and want of memory are no faults
abbrev pub is_counted : DisksFault → Bool
is_counted Absent = false
is_counted InUse = true
is_counted Failed = true
is_counted Memory = false

-- a call answered a fault that is counted
abbrev pub has_failed : {T : Type 0} → Result T DisksFault → Bool
has_failed (Ok value) = false
has_failed (Err fault) = is_counted fault
