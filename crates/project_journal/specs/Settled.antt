-- The state of a journal's file between two calls. `gate` is the offset of the last gate, and the front of a file is what stands before it.
use Rattle.std.specs.Prelude.{◌≡◌, ◌≢◌, ℕ, ◌+◌, ◌<◌, ◌≤◌, Bool, true, false, List, [], ◌∷◌, ◌++◌, length, take, drop, slice_index, bytes_eq, Option, None, if◌then◌else◌}
use Rattle.std.specs.Option.{option_map, option_map_or}
use Rattle.project_journal.specs.Keeper.{IsEntry}
use Rattle.project_journal.specs.JournalFile.{mark, version, is_known, records, record_of, entries, whole_record}

-- a header of a known version, and behind it the records of these entries
pub record IsFront (front : List ℕ) (entries : List (List ℕ)) : Type 0 where
  pub long : 16 ≤ length front
  pub marked : bytes_eq mark (take 8 front) ≡ true
  pub known : is_known (version front) ≡ true
  pub whole : front ≡ take 16 front ++ records entries

-- the entries before the gate
unfoldable pub kept_in : ℕ → List ℕ → List (List ℕ)
kept_in gate file = entries (take gate file ++ 0 ∷ [])

-- the payload of the record behind the gate
unfoldable pub refused_in : ℕ → List ℕ → List ℕ
refused_in gate file = option_map_or (λ it. it.0) (whole_record (drop (gate + 1) file)) []

-- an image has this front, and its gate is closed
pub record Shut (gate : ℕ) (front image : List ℕ) : Type 0 where
  pub same : take gate image ≡ front
  pub within : gate < length image
  pub closed : slice_index image gate ≢ 1

-- an image has this front, and behind the gate the whole record of the entry and a closed gate
pub record Whole (gate : ℕ) (front entry image : List ℕ) : Type 0 where
  pub same : take gate image ≡ front
  pub behind : take (length entry + 5) (drop (gate + 1) image) ≡ record_of entry ++ 0 ∷ []

-- Each image has the front that a read gives. Its gate is closed, or, while a mending is due, the refused record is whole behind it.
pub record IsSettled (images : List ℕ → Type 0) (gate : ℕ) (mending : Bool) (file : List ℕ) : Type 0 where
  pub front : IsFront (take gate file) (kept_in gate file)
  pub closed : mending ≡ false → (image : List ℕ) → images image → Shut gate (take gate file) image
  pub refused : mending ≡ true → IsEntry (refused_in gate file)
  pub whole : mending ≡ true → (image : List ℕ) → images image → Whole gate (take gate file) (refused_in gate file) image

-- the byte at the gate may be another
pub record Turned (gate : ℕ) (old new : List ℕ) : Type 0 where
  pub before : take gate new ≡ take gate old
  pub after : drop (gate + 1) new ≡ drop (gate + 1) old
  pub size : length new ≡ length old

-- the first n bytes stay, and the file is no shorter
pub record KeepsFront (n : ℕ) (old new : List ℕ) : Type 0 where
  pub front : take n new ≡ take n old
  pub no_shorter : length old ≤ length new

-- each image has more than n bytes
abbrev pub Longer : ℕ → (List ℕ → Type 0) → Type 0
Longer n images = (image : List ℕ) → images image → n < length image

-- the entries of a file whose last gate stands there, where the file is told
abbrev pub kept_by : Option (List ℕ) → ℕ → Option (List (List ℕ))
kept_by file gate = option_map (kept_in gate) file

-- the refused entry behind the gate while a mending is due, where the file is told
abbrev pub doubt_by : Option (List ℕ) → ℕ → Bool → Option (List ℕ)
doubt_by file gate mending = if mending then option_map (refused_in gate) file else None
