-- How many lines of each sort were passed (private calls only).
use Rattle.std.specs.Prelude.{◌≡◌, ℕ, ◌==◌, List, slice_index, count_by, unwrap_or}
use Rattle.std.specs.BTreeMap.{BTreeMap, get}
use Rattle.std.specs.Ordering.{nat_cmp}
use Rattle.ann_reader.specs.Lines.{Line}
use Rattle.ann_reader.specs.LineFaults.{counted_byte}

-- a map from each byte to the number of the lines that are counted as it
abbrev pub CountsLines : List Line → BTreeMap ℕ ℕ → Type 0
CountsLines lines counts = (b : ℕ) → unwrap_or (get nat_cmp counts b) 0 ≡ count_by (λ line. counted_byte (slice_index line.bytes 0) == b) lines
