-- What the calls of a disk do to its file, and what a crash may leave between two syncs.
-- A crash image is a content that the file may have after the machine stopped.
use Rattle.std.specs.Prelude.{◌≡◌, ℕ, ◌+◌, ◌≤◌, min, max, Bool, true, List, ◌++◌, length, take, drop, Option, Some}
use Rattle.mark_base.specs.Streams.{Rose}

-- bytes written over a file at an offset within it, or at its end
abbrev pub written : List ℕ → ℕ → List ℕ → List ℕ
written file at piece = take at file ++ piece ++ drop (at + length piece) file

-- A write of n bytes at `at` that may be cut short: any bytes in the range and past the old end, the same bytes elsewhere.
pub record Torn (at n : ℕ) (old new : List ℕ) : Type 0 where
  pub before : take (min at (length old)) new ≡ take at old
  pub after : drop (at + n) new ≡ drop (at + n) old
  pub no_shorter : length old ≤ length new
  pub no_longer : length new ≤ max (length old) (at + n)

-- A change of the length to n that may be cut short: some length between the two, the same bytes below both.
pub record Resized (n : ℕ) (old new : List ℕ) : Type 0 where
  pub no_shorter : min (length old) n ≤ length new
  pub no_longer : length new ≤ max (length old) n
  pub below : take (min (length old) n) new ≡ take n old

-- an old image after a step
abbrev pub Reaches : (List ℕ → List ℕ → Type 0) → (List ℕ → Type 0) → List ℕ → Type 0
Reaches step old image = (before : List ℕ) × old before × step before image

-- each new image is an old image after a step
abbrev pub Follows : (List ℕ → List ℕ → Type 0) → (List ℕ → Type 0) → (List ℕ → Type 0) → Type 0
Follows step old new = (image : List ℕ) → new image → Reaches step old image

-- no image is new
abbrev pub NoMore : (List ℕ → Type 0) → (List ℕ → Type 0) → Type 0
NoMore old new = (image : List ℕ) → new image → old image

-- a crash leaves what a read gives
abbrev pub Durable : Option (List ℕ) → (List ℕ → Type 0) → Type 0
Durable holds images = (image : List ℕ) → images image → holds ≡ Some image

-- each image has length 0
abbrev pub OnlyEmpty : (List ℕ → Type 0) → Type 0
OnlyEmpty images = (image : List ℕ) → images image → length image ≡ 0

-- what a read gives before and after a call, where it is told, differ by a step
abbrev pub Changes : (List ℕ → List ℕ → Type 0) → Option (List ℕ) → Option (List ℕ) → Type 0
Changes step old new = (before after : List ℕ) → old ≡ Some before → new ≡ Some after → step before after

-- A fault is answered only where the count of faults rose, and a success only where it stands as before, so that no call
-- that failed was made again. A faultless device answers no fault and stays so.
pub record Counts (before now : ℕ) (faultless stays : Type 0) (ok : Bool) : Type 0 where
  pub later : before ≤ now
  pub failed : (ok ≡ true → ⊥) → Rose before now
  pub still : ok ≡ true → now ≡ before
  pub none : faultless → stays × (ok ≡ true) × (now ≡ before)

-- a call takes up at most one of the calls that were reserved, and none of the length
pub record Spends (spare_old spare_new reach_old reach_new : ℕ) : Type 0 where
  pub spare : spare_old ≤ spare_new + 1
  pub reach : reach_old ≤ reach_new

-- the same of at most n calls
pub record SpendsUpTo (n spare_old spare_new reach_old reach_new : ℕ) : Type 0 where
  pub spare : spare_old ≤ spare_new + n
  pub reach : reach_old ≤ reach_new
