-- Named disks in memory.
use Rattle.std.specs.Prelude.{◌≡◌, ℕ, Bool, true, List, [], ◌∷◌, map, position, bytes_eq, Option, if◌then◌else◌}
use Rattle.std.specs.List.{list_any, AllByRecursion}
use Rattle.std.specs.FinMap.{from_entries}
use Rattle.project_journal.specs.declared.memory_disk.MemoryDisk.{MemoryDisk}
use Rattle.project_journal.specs.MemoryDisks.{bytes_of, FailsNoMore}
use Rattle.named_disks.specs.NamedDisks.{Stored}

-- what some disks with names store; of several disks of one name the first counts
abbrev pub stored_of : List (List ℕ × MemoryDisk) → Stored
stored_of disks = from_entries (map (λ entry. (entry.0, bytes_of entry.1)) disks)

-- the bytes of the first disk of a name, or none where there is no such disk
abbrev pub first_bytes : List (List ℕ × MemoryDisk) → List ℕ → List ℕ
first_bytes [] name = []
first_bytes (entry ∷ disks) name = if bytes_eq name entry.0 then bytes_of entry.1 else first_bytes disks name

-- the place of the first disk of a name
abbrev pub place_of : List (List ℕ × MemoryDisk) → List ℕ → Option ℕ
place_of disks name = position (λ entry. bytes_eq name entry.0) disks

-- some disk has this name
abbrev pub has_name : List (List ℕ × MemoryDisk) → List ℕ → Bool
has_name disks name = list_any (λ entry. bytes_eq name entry.0) disks

-- a disk stands for each name that is out
abbrev pub HaveNames : List (List ℕ × MemoryDisk) → List (List ℕ) → Type 0
HaveNames disks out = (name : List ℕ) → list_any (bytes_eq name) out ≡ true → has_name disks name ≡ true

-- none of some disks fails from here on
abbrev pub FailNoMore : List (List ℕ × MemoryDisk) → Type 0
FailNoMore disks = AllByRecursion (λ entry. FailsNoMore entry.1) disks
