-- Where an index keeps the numbers of its spans, by buckets of characters (private calls only).
use Rattle.std.specs.Prelude.{◌≡◌, ℕ, ◌/◌, ◌+◌, ◌-◌, ◌≤◌, ◌<◌, ◌==◌, ◌⊎◌, Bool, true, List, Option, Some, None, ⊤}
use Rattle.std.specs.List.{list_any}
use Rattle.std.specs.Ordering.{nat_cmp, ordering_then}
use Rattle.std.specs.declared.cmp.Ordering.{Ordering}
use Rattle.std.specs.BTreeSet.{BTreeSet, contains}
use Rattle.std.specs.FinMap as map
use Rattle.mark_base.specs.declared.fragments.Frag.{Frag}
use Rattle.mark_base.specs.declared.overlap.OvlKind.{OvlKind}
use Rattle.overlap_rules.specs.Overlaps.{covers}
use Rattle.overlap_rules.specs.TouchingSpans.{Held, AreAscending, Passes}

-- the spans of these entries
abbrev pub held_in : List (ℕ × List Frag) → Held
held_in entries = map.from_entries entries

-- numbers beside buckets
abbrev pub Places : Type 0
Places = BTreeSet (ℕ × ℕ)

-- the order of places: by bucket, then by number
abbrev pub place_cmp : ℕ × ℕ → ℕ × ℕ → Ordering
place_cmp a b = ordering_then (nat_cmp a.0 b.0) (nat_cmp a.1 b.1)

-- the bucket of a character
abbrev pub bucket_of : ℕ → ℕ
bucket_of character = character / 64

-- a number stands beside a bucket
abbrev pub has : Places → ℕ → ℕ → Bool
has places bucket number = contains place_cmp places (bucket, number)

-- a number stands beside each bucket between two
abbrev pub HasBetween : Places → ℕ → ℕ → ℕ → Type 0
HasBetween places number first last = (bucket : ℕ) → first ≤ bucket → bucket ≤ last → has places bucket number ≡ true

-- what stood somewhere stands there still
abbrev pub Keeps : Places → Places → Type 0
Keeps before after = (bucket number : ℕ) → has before bucket number ≡ true → has after bucket number ≡ true

-- what stood somewhere stands there still, but for one number
abbrev pub KeepsOthers : ℕ → Places → Places → Type 0
KeepsOthers gone before after = (bucket number : ℕ) → (number ≡ gone → ⊥) → has before bucket number ≡ true → has after bucket number ≡ true

-- a character is the first of one of some fragments
abbrev pub begins : List Frag → ℕ → Bool
begins frags character = list_any (λ frag. frag.start == character) frags

-- a number stands beside the bucket of each character that lies so to fragments
abbrev pub IsBeside : (List Frag → ℕ → Bool) → Places → ℕ → List Frag → Type 0
IsBeside lies places number frags = (character : ℕ) → lies frags character ≡ true → has places (bucket_of character) number ≡ true

-- the number of each held span stands beside the bucket of each character that lies so to the span
abbrev pub AreBeside : (List Frag → ℕ → Bool) → Held → Places → Type 0
AreBeside lies held places = (number : ℕ) (span : List Frag) → map.get held number ≡ Some span → IsBeside lies places number span

-- what an index keeps: spans in ascending order, and their numbers beside the buckets of the characters that they cover, and of those at which their fragments begin
pub record IsKept (held : Held) (covered begun : Places) : Type 0 where
  pub ascending : AreAscending held
  pub spread : AreBeside covers held covered
  pub starts : AreBeside begins held begun

-- a number stands beside one of some buckets, from the first to the last
pub record StandsBetween (places : Places) (first last : ℕ) (number : ℕ) : Type 0 where
  pub bucket : ℕ
  pub low : first ≤ bucket
  pub high : bucket ≤ last
  pub there : has places bucket number ≡ true

-- a number covers something of the first bucket that a fragment meets, or begins in a later one
abbrev pub StandsNear : Places → Places → Frag → ℕ → Type 0
StandsNear covered begun frag number =
    StandsBetween covered (bucket_of frag.start) (bucket_of frag.start) number ⊎ StandsBetween begun (bucket_of frag.start + 1) (bucket_of (frag.end - 1)) number

-- a number is below the lowest that was found, or none was found
abbrev pub IsBelow : ℕ → Option ℕ → Type 0
IsBelow number None = ⊤
IsBelow number (Some lowest) = number < lowest

-- the lowest that was found passes, if one was found
abbrev pub FoundPasses : (ℕ → OvlKind → Bool → Type 0) → Held → List Frag → Option ℕ → Option ℕ → Type 0
FoundPasses answers held frags skip None = ⊤
FoundPasses answers held frags skip (Some lowest) = Passes answers held frags skip lowest

-- a later find is no higher
abbrev pub IsNoHigher : Option ℕ → Option ℕ → Type 0
IsNoHigher before after = (number : ℕ) → IsBelow number after → IsBelow number before
