-- Which calls of named disks in memory fail.
use Rattle.mark_base.specs.FailList.{FailState}
use Rattle.named_disks.specs.declared.memory_disks.MemoryDisks.{MemoryDisks}

-- the numbers of the calls that fail, how many calls were made, and how many failed
abbrev pub calls_of : MemoryDisks → FailState
calls_of disks = disks.fails
