-- What a disk in memory does at each call: it fails at the numbers of its list, its effect is whole or none, and a crash may leave all that the model allows.
use Rattle.std.specs.Prelude.{◌≡◌, ◌⊎◌, ◌↔◌, ℕ, ◌+◌, ◌-◌, ◌<◌, ◌^◌, Bool, true, false, not, ◌||◌, List, ◌++◌, length, take, replicate, map, vec_len, if◌then◌else◌}
use Rattle.std.specs.Vec.{vec_capacity}
use Rattle.mark_base.specs.FailList.{FailState, CountsCall}
use Rattle.project_journal.specs.declared.disk_fails.DiskFail.{DiskFail}
use Rattle.project_journal.specs.declared.memory_disk.MemoryDisk.{MemoryDisk}
use Rattle.project_journal.specs.Disk.{written, Reaches, Counts, Spends}
use Rattle.project_journal.specs.DiskFails.{NoFailLeft, is_done}
use Rattle.project_journal.specs.PastCalls.{ImageOf, LeftSince}
use Rattle.project_journal.specs.Stops.{Elapses}

-- the list of the calls that fail
abbrev pub list_of : MemoryDisk → List DiskFail
list_of disk = disk.fails.items

-- their numbers, how many calls were made, and how many failed
abbrev pub fails_of : MemoryDisk → FailState
fails_of disk = record { fails = map (λ fail. fail.call) disk.fails.items; calls = disk.calls; faults = disk.faults }

-- no failing call is left, and the count of faults is below its last value
abbrev pub FailsNoMore : MemoryDisk → Type 0
FailsNoMore disk = NoFailLeft disk.calls disk.fails.items × (disk.faults < 2 ^ 64 - 1)

-- what a read gives
abbrev pub bytes_of : MemoryDisk → List ℕ
bytes_of disk = disk.bytes.items

-- what a crash now may leave
abbrev pub images_of : MemoryDisk → List ℕ → Type 0
images_of disk = ImageOf disk.start.value.items disk.past.items

-- what a crash at some moment since that one may have left
abbrev pub left_since_of : MemoryDisk → ℕ → List ℕ → Type 0
left_since_of disk = LeftSince disk.start.value.items disk.past.items

-- how many calls can be made without memory
abbrev pub spare_of : MemoryDisk → ℕ
spare_of disk = vec_capacity disk.past - vec_len disk.past

-- a file made that long, with zeros past the old end
abbrev pub resized : ℕ → List ℕ → List ℕ
resized n file = take n file ++ replicate (n - length file) 0

-- bytes written over a file, with zeros between its end and an offset past it
abbrev pub overwritten : ℕ → List ℕ → List ℕ → List ℕ
overwritten at piece file = written (file ++ replicate (at - length file) 0) at piece

-- what each call but a reserve keeps: time goes on, at most one reserved call is taken up, and a fault is counted where it is answered
pub record GoesOn (old new : MemoryDisk) (ok : Bool) : Type 0 where
  pub time : Elapses (length old.past.items) (length new.past.items) (left_since_of old) (left_since_of new) (images_of new)
  pub spends : Spends (spare_of old) (spare_of new) (vec_capacity old.bytes) (vec_capacity new.bytes)
  pub counts : Counts old.faults new.faults (FailsNoMore old) (FailsNoMore new) ok

-- a call was counted, and it failed exactly where the list has its number; the list is as before
pub record CallsOnce (old new : MemoryDisk) (failed : Bool) : Type 0 where
  pub called : CountsCall (fails_of old) failed (fails_of new)
  pub list : list_of new ≡ list_of old

-- the file is as before, and so is all that a crash may leave
pub record SameFile (old new : MemoryDisk) : Type 0 where
  pub bytes : bytes_of new ≡ bytes_of old
  pub images : (image : List ℕ) → images_of new image ↔ images_of old image

-- whether the next call has its effect: it succeeds, or the list says that the effect is done
abbrev pub acts : MemoryDisk → Bool → Bool
acts disk failed = not failed || is_done (list_of disk) (disk.calls + 1)

-- A change of the file has its whole effect, or none. A crash may leave the file as it is now, or any image from before with a part of the change.
pub record ChangesFile (whole : List ℕ → List ℕ) (part : List ℕ → List ℕ → Type 0) (old new : MemoryDisk) (failed : Bool) : Type 0 where
  pub bytes : bytes_of new ≡ (if acts old failed then whole (bytes_of old) else bytes_of old)
  pub images : (image : List ℕ) → images_of new image ↔ ((image ≡ bytes_of new) ⊎ Reaches part (images_of old) image)

-- A sync leaves the file. After one that succeeds a crash leaves the file alone, and after one that fails what it might have left before.
pub record SyncsFile (old new : MemoryDisk) (failed : Bool) : Type 0 where
  pub bytes : bytes_of new ≡ bytes_of old
  pub durable : failed ≡ false → (image : List ℕ) → images_of new image ↔ (image ≡ bytes_of new)
  pub refused : failed ≡ true → (image : List ℕ) → images_of new image ↔ images_of old image
