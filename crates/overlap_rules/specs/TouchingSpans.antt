-- Which of some held spans touches given fragments first.
use Rattle.std.specs.Prelude.{◌≡◌, ℕ, ◌<◌, ◌==◌, ◌||◌, Bool, true, false, List, Option, Some, None}
use Rattle.std.specs.Option.{option_map_or}
use Rattle.std.specs.Ordering.{nat_cmp}
use Rattle.std.specs.FinMap as map
use Rattle.mark_base.specs.declared.fragments.Frag.{Frag}
use Rattle.mark_base.specs.declared.overlap.OvlKind.{OvlKind}
use Rattle.mark_base.specs.declared.overlap.OvlKind.TheVariants.{Apart}
use Rattle.std.specs.Coded.{Coded, coded_ℕ, coded_list}
use Rattle.mark_base.specs.contracts.fragments.Frag as frag_row
use Rattle.overlap_rules.specs.Overlaps.{are_ascending, kind_of}

-- the spans of an index, by number
abbrev pub Held : Type 0
Held = map.FinMap nat_cmp (List Frag)

-- an index is stored as its entries
abbrev pub held_code : Coded Held
held_code = map.code coded_ℕ (coded_list frag_row.the_row.coded)

-- each span that is held is in ascending order, with no empty fragment
abbrev pub AreAscending : Held → Type 0
AreAscending held = (number : ℕ) (span : List Frag) → map.get held number ≡ Some span → are_ascending span ≡ true

-- no character in common
abbrev pub is_apart : OvlKind → Bool
is_apart Apart = true
is_apart _ = false

-- a span is passed over where it is the one to skip, or has no character in common with the fragments
abbrev pub is_passed_over : List Frag → Option ℕ → ℕ → List Frag → Bool
is_passed_over frags skip number span = option_map_or (λ skipped. skipped == number) skip false || is_apart (kind_of span frags)

-- the span of a number, if one is held, is passed over or does not pass the test, whose answers are related to number and kind
abbrev pub Fails : (ℕ → OvlKind → Bool → Type 0) → Held → List Frag → Option ℕ → ℕ → Type 0
Fails answers held frags skip number =
    (span : List Frag) → map.get held number ≡ Some span → is_passed_over frags skip number span ≡ false → answers number (kind_of span frags) false

-- the span of a number is held, is not passed over, and passes the test
pub record Passes (answers : ℕ → OvlKind → Bool → Type 0) (held : Held) (frags : List Frag) (skip : Option ℕ) (number : ℕ) : Type 0 where
  pub span : List Frag
  pub held_so : map.get held number ≡ Some span
  pub touches : is_passed_over frags skip number span ≡ false
  pub passes : answers number (kind_of span frags) true

-- a number passes, and no lower one does
pub record IsFirst (answers : ℕ → OvlKind → Bool → Type 0) (held : Held) (frags : List Frag) (skip : Option ℕ) (number : ℕ) : Type 0 where
  pub passes : Passes answers held frags skip number
  pub lowest : (lower : ℕ) → lower < number → Fails answers held frags skip lower

-- the lowest number whose span touches the fragments and passes the test, or none where no number does
abbrev pub IsFirstTouching : (ℕ → OvlKind → Bool → Type 0) → Held → List Frag → Option ℕ → Option ℕ → Type 0
IsFirstTouching answers held frags skip None = (number : ℕ) → Fails answers held frags skip number
IsFirstTouching answers held frags skip (Some number) = IsFirst answers held frags skip number
