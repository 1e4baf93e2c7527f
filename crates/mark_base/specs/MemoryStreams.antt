-- What a stream in memory does at each call: it fails at the numbers of its list, and what it gives and takes follows from its sizes.
use Rattle.std.specs.Prelude.{◌≡◌, ℕ, ◌+◌, ◌<◌, ◌-◌, ◌^◌, min, true, List, length, drop, Result, is_err, IsErr, IfOk, if◌then◌else◌}
use Rattle.mark_base.specs.declared.failed.Failed.{Failed}
use Rattle.mark_base.specs.declared.memory_source.MemorySource.{MemorySource}
use Rattle.mark_base.specs.declared.memory_sink.MemorySink.{MemorySink}
use Rattle.mark_base.specs.declared.memory_link.MemoryLink.{MemoryLink}
use Rattle.mark_base.specs.FailList.{FailState, CountsCall, is_listed}
use Rattle.mark_base.specs.PieceSizes.{next_size}

-- which reads of a source fail
abbrev pub fails_of_reads : MemorySource → FailState
fails_of_reads source = source.fails

-- the sizes of the pieces to come
abbrev pub sizes_of : MemorySource → List ℕ
sizes_of source = drop source.pieces source.sizes.items

-- the bytes to come
abbrev pub bytes_of : MemorySource → List ℕ
bytes_of source = drop source.taken source.bytes

-- which writes of a sink fail
abbrev pub fails_of_writes : MemorySink → FailState
fails_of_writes sink = sink.fails

-- the source of a link
abbrev pub source_of : MemoryLink → MemorySource
source_of link = link.source

-- the sink of a link
abbrev pub sink_of : MemoryLink → MemorySink
sink_of link = link.sink

-- one read: it fails exactly where its number is listed, and gives the next piece, as far as the room and the bytes go
pub record ReadsOnce (old new : MemorySource) (room : ℕ) (result : Result ℕ Failed) : Type 0 where
  pub called : CountsCall (fails_of_reads old) (is_err result) (fails_of_reads new)
  pub sizes : sizes_of new ≡ (if is_err result then sizes_of old else drop 1 (sizes_of old))
  pub count : IfOk result (λ count. count ≡ min (next_size (sizes_of old)) (min (length (bytes_of old)) room))

-- one write: it is counted, fails where its number is listed, and takes the whole piece; a growth that is refused is a fault of its write too
pub record WritesOnce (old new : MemorySink) (piece : ℕ) (result : Result ℕ Failed) : Type 0 where
  pub counted : (fails_of_writes old).calls < 2 ^ 64 - 1 → (fails_of_writes new).calls ≡ (fails_of_writes old).calls + 1
  pub listed : (fails_of_writes old).calls < 2 ^ 64 - 1 → is_listed (fails_of_writes old) ((fails_of_writes old).calls + 1) ≡ true → IsErr result
  pub fails : (fails_of_writes new).fails ≡ (fails_of_writes old).fails
  pub count : IfOk result (λ count. count ≡ piece)
