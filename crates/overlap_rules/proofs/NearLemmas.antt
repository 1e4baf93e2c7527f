-- The lowest span that passes among those whose numbers stand near a fragment.
use Rattle.std.proofs.Common.{◌≡◌, ◌==◌, ℕ, ◌+◌, ◌-◌, ◌<◌, ◌≤◌, ◌⊎◌, inl, inr, zero, suc, Bool, true, false, not, List, [], ◌∷◌, Option, Some, None, length, slice_index_or, refl, sym, ◌∙◌, ap, subst, arith}
use Rattle.std.specs.FinMap as map
use Rattle.std.specs.List.{list_any, filter, range_with_len}
use Rattle.std.specs.Ordering.{nat_cmp, is_le, ordering_then}
use Rattle.std.specs.declared.cmp.Ordering.TheVariants.{Less, Equal, Greater}
use Rattle.std.specs.declared.ops.Bound.TheVariants.{Included, Excluded}
use Rattle.std.specs.BTreeMap.{is_at}
use Rattle.std.specs.BTreeMap.Range.{range_contains}
use Rattle.std.proofs.lemmas.Bool.{false≢true, eq-eqb, or_cases, or_left, or_right, and_from, cases_lt, both_ways, true_from_ne_false}
use Rattle.std.proofs.lemmas.Cmp.{ranked}
use Rattle.std.proofs.lemmas.List.Folds.{list_any-append}
use Rattle.std.proofs.lemmas.Map.Views.{any-filter_same}
use Rattle.mark_base.specs.declared.fragments.Frag.{Frag}
use Rattle.mark_base.specs.declared.overlap.OvlKind.{OvlKind}
use Rattle.overlap_rules.specs.Overlaps.{are_ascending, characters, characters_of, covers, shares}
use Rattle.overlap_rules.specs.TouchingSpans.{Held, is_apart, is_passed_over, Passes, Fails, IsFirstTouching}
use Rattle.overlap_rules.specs.Buckets.{Places, place_cmp, bucket_of, IsKept, begins, IsBeside, StandsBetween, StandsNear, IsBelow, IsNoHigher, FoundPasses}
use Rattle.overlap_rules.proofs.BucketLemmas.{same_number, first_equal, second_equal, bucket_le}
use Rattle.overlap_rules.proofs.CoverLemmas.{IsIn, covers_cases, covers_here, covers_later, not_empty, ascending_later, kind_apart}
use Rattle.overlap_rules.proofs.TouchLemmas.{apart_passed}

-- a place stands in a list of places
abbrev pub stands : ℕ × ℕ → List (ℕ × ℕ) → Bool
stands place places = list_any (is_at (place_cmp place)) places

zero_le : (n : ℕ) → is_le (nat_cmp 0 n) ≡ true
zero_le n =
    elim (nat_cmp 0 n) as (λ r. r ≡ nat_cmp 0 n → is_le r ≡ true) [
      | Less ↦ λ _. refl
      | Equal ↦ λ _. refl
      | Greater ↦ λ is. absurd (let above = ranked 0 n Greater is in omega (arith, above))
    ] refl

-- a number below one that is below the lowest
below_lower : (number lower : ℕ) (found : Option ℕ) → number < lower → IsBelow lower found → IsBelow number found
below_lower number lower None less below = tt
below_lower number lower (Some lowest) less below = omega (arith, less, below)

-- the order of two places whose buckets differ, or are the same
from_first : (first b n : ℕ) → first ≤ b → is_le (place_cmp (first, 0) (b, n)) ≡ true
from_first first b n low =
    elim (nat_cmp first b) as (λ r. r ≡ nat_cmp first b → is_le (ordering_then r (nat_cmp 0 n)) ≡ true) [
      | Less ↦ λ _. refl
      | Equal ↦ λ _. zero_le n
      | Greater ↦ λ is. absurd (let above = ranked first b Greater is in omega (arith, low, above))
    ] refl

before_last : (behind b n : ℕ) → b < behind → is_le (place_cmp (behind, 0) (b, n)) ≡ false
before_last behind b n high =
    elim (nat_cmp behind b) as (λ r. r ≡ nat_cmp behind b → is_le (ordering_then r (nat_cmp 0 n)) ≡ false) [
      | Less ↦ λ is. absurd (let below = ranked behind b Less is in omega (arith, high, below))
      | Equal ↦ λ is. absurd (let same = ranked behind b Equal is in omega (arith, high, same))
      | Greater ↦ λ _. refl
    ] refl

-- what stands beside one of some buckets stands in the range
pub between_in_range : (places : Places) (first last behind number : ℕ) → last < behind → (near : StandsBetween places first last number)
    → stands (near.bucket, number) (filter (range_contains place_cmp (Included (first, 0)) (Excluded (behind, 0))) places.keys) ≡ true
between_in_range places first last behind number less near =
    any-filter_same (is_at (place_cmp (near.bucket, number))) (range_contains place_cmp (Included (first, 0)) (Excluded (behind, 0))) true
    (λ k same.
    let bucket : near.bucket ≡ k.0 = same_number near.bucket k.0 (first_equal (nat_cmp near.bucket k.0) (nat_cmp number k.1) same) in
    let low : first ≤ k.0 = (let f = near.low in omega (arith, f, bucket)) in
    let high : k.0 < behind = (let l = near.high in omega (arith, l, bucket, less)) in
    and_from (is_le (place_cmp (first, 0) k)) (not (is_le (place_cmp (behind, 0) k)))
    (from_first first k.0 k.1 low) (ap not (before_last behind k.0 k.1 high))) places.keys
    ∙ near.there

-- the places that are left; the lowest that was found passes, is no higher than the one before, and each other number that stood in the range is left, or fails where it is below
pub record Looks (answers : ℕ → OvlKind → Bool → Type 0) (held : Held) (frags : List Frag) (skip before : Option ℕ) (range rest : List (ℕ × ℕ)) (found : Option ℕ) : Type 0 where
  pub passes : FoundPasses answers held frags skip found
  pub lower : IsNoHigher before found
  pub tried : (bucket number : ℕ) → stands (bucket, number) range ≡ true
      → (stands (bucket, number) rest ≡ true) ⊎ (IsBelow number found → Fails answers held frags skip number)

pub looks_none : (answers : ℕ → OvlKind → Bool → Type 0) (held : Held) (frags : List Frag) (skip before : Option ℕ) (range rest : List (ℕ × ℕ))
    → FoundPasses answers held frags skip before → rest ≡ range → Looks answers held frags skip before range rest before
looks_none answers held frags skip before range rest passes all = record {
  passes = passes;
  lower = λ number below. below;
  tried = λ bucket number there. inl (ap (stands (bucket, number)) all ∙ there);
}

-- the next place has a number that is not below the lowest that was found, or fails
pub looks_more : (answers : ℕ → OvlKind → Bool → Type 0) (held : Held) (frags : List Frag) (skip before : Option ℕ) (range rest later : List (ℕ × ℕ)) (place : ℕ × ℕ) (found : Option ℕ)
    → rest ≡ place ∷ later → (IsBelow place.1 found → Fails answers held frags skip place.1)
    → Looks answers held frags skip before range rest found → Looks answers held frags skip before range later found
looks_more answers held frags skip before range rest later place found is fails looks = record {
  passes = looks.passes;
  lower = looks.lower;
  tried = λ bucket number there.
      elim (looks.tried bucket number there) [
        | inl left ↦
            elim (or_cases (is_at (place_cmp (bucket, number)) place) (stands (bucket, number) later) (sym (ap (stands (bucket, number)) is) ∙ left)) [
              | inl here ↦
                  (let same : number ≡ place.1 = same_number number place.1 (second_equal (nat_cmp bucket place.0) (nat_cmp number place.1) here) in
                  inr (λ below. subst (λ n. Fails answers held frags skip n) (sym same) (fails (subst (λ n. IsBelow n found) same below))))
              | inr further ↦ inl further
            ]
        | inr done ↦ inr done
      ];
}

-- the next place has a number that is below the lowest that was found, and passes
pub looks_found : (answers : ℕ → OvlKind → Bool → Type 0) (held : Held) (frags : List Frag) (skip before : Option ℕ) (range rest later : List (ℕ × ℕ)) (place : ℕ × ℕ) (found : Option ℕ)
    → rest ≡ place ∷ later → IsBelow place.1 found → Passes answers held frags skip place.1
    → Looks answers held frags skip before range rest found → Looks answers held frags skip before range later (Some place.1)
looks_found answers held frags skip before range rest later place found is below passes looks =
    let lower : (number : ℕ) → number < place.1 → IsBelow number found = λ number less. below_lower number place.1 found less below in
    record {
      passes = passes;
      lower = λ number less. looks.lower number (lower number less);
      tried = λ bucket number there.
          elim (looks.tried bucket number there) [
            | inl left ↦
                elim (or_cases (is_at (place_cmp (bucket, number)) place) (stands (bucket, number) later) (sym (ap (stands (bucket, number)) is) ∙ left)) [
                  | inl here ↦
                      (let same : number ≡ place.1 = same_number number place.1 (second_equal (nat_cmp bucket place.0) (nat_cmp number place.1) here) in
                      inr (λ less. absurd (omega (arith, same, less))))
                  | inr further ↦ inl further
                ]
            | inr done ↦ inr (λ less. done (lower number less))
          ];
    }

-- no place is left
pub looks_all : (answers : ℕ → OvlKind → Bool → Type 0) (held : Held) (frags : List Frag) (skip before : Option ℕ) (places : Places) (range rest : List (ℕ × ℕ)) (found : Option ℕ) (first behind : ℕ)
    → rest ≡ [] → range ≡ filter (range_contains place_cmp (Included (first, 0)) (Excluded (behind, 0))) places.keys
    → Looks answers held frags skip before range rest found
    → (number last : ℕ) → last < behind → StandsBetween places first last number → IsBelow number found → Fails answers held frags skip number
looks_all answers held frags skip before places range rest found first behind none is looks number last less stands_near below =
    elim (looks.tried stands_near.bucket number (ap (stands (stands_near.bucket, number)) is ∙ between_in_range places first last behind number less stands_near)) [
      | inl left ↦ absurd (false≢true (sym (ap (stands (stands_near.bucket, number)) none) ∙ left))
      | inr fails ↦ fails below
    ]

-- the numbers of the first bucket, and then of those that begin in later ones
pub near_both : (answers : ℕ → OvlKind → Bool → Type 0) (held : Held) (frags : List Frag) (skip : Option ℕ) (covered begun : Places) (near : Frag) (first behind : ℕ) (between after : Option ℕ)
    → first ≡ bucket_of near.start → behind ≡ bucket_of (near.end - 1) + 1 → IsNoHigher between after
    → ((number last : ℕ) → last < first + 1 → StandsBetween covered first last number → IsBelow number between → Fails answers held frags skip number)
    → ((number last : ℕ) → last < behind → StandsBetween begun (first + 1) last number → IsBelow number after → Fails answers held frags skip number)
    → (number : ℕ) → StandsNear covered begun near number → IsBelow number after → Fails answers held frags skip number
near_both answers held frags skip covered begun near first behind between after is_first is_behind lower one other number (inl here) below =
    one number (bucket_of near.start) (omega (arith, is_first)) (subst (λ n. StandsBetween covered n (bucket_of near.start) number) (sym is_first) here) (lower number below)
near_both answers held frags skip covered begun near first behind between after is_first is_behind lower one other number (inr later) below =
    other number (bucket_of (near.end - 1)) (omega (arith, is_behind)) (subst (λ n. StandsBetween begun (n + 1) (bucket_of (near.end - 1)) number) (sym is_first) later) below

-- a character that both cover
record Shared (a b : List Frag) : Type 0 where
  character : ℕ
  in_a : covers a character ≡ true
  in_b : covers b character ≡ true

shared_in_range : (b : List Frag) (frag : Frag) (more : List Frag) (low count : ℕ) → frag.start ≤ low → low + count ≤ frag.end
    → list_any (covers b) (range_with_len low count) ≡ true → Shared (frag ∷ more) b
shared_in_range b frag more low zero from upto e = absurd (false≢true e)
shared_in_range b frag more low (suc count) from upto e =
    elim (or_cases (covers b low) (list_any (covers b) (range_with_len (low + 1) count)) e) [
      | inl here ↦ record { character = low; in_a = covers_here frag more low from (omega (arith, upto)); in_b = here }
      | inr later ↦ shared_in_range b frag more (low + 1) count (omega (arith, from)) (omega (arith, upto)) later
    ]

shared : (a b : List Frag) → are_ascending a ≡ true → shares a b ≡ true → Shared a b
shared [] b ascending e = absurd (false≢true e)
shared (frag ∷ more) b ascending e =
    elim (or_cases (list_any (covers b) (characters_of frag)) (list_any (covers b) (characters more)) (sym (list_any-append (covers b) (characters_of frag) (characters more)) ∙ e)) [
      | inl here ↦
          (let full = not_empty frag more ascending in
          shared_in_range b frag more frag.start (frag.end - frag.start) (omega arith) (omega (arith, full)) here)
      | inr later ↦
          (let s = shared more b (ascending_later frag more ascending) later in
          record { character = s.character; in_a = covers_later frag more s.character s.in_a; in_b = s.in_b })
    ]

abbrev pub no_frag : Frag
no_frag = record { start = 0; end = 0 }

-- the fragment that a character lies in
record LiesIn (frags : List Frag) (character : ℕ) : Type 0 where
  place : ℕ
  within : place < length frags
  inside : IsIn (slice_index_or frags place no_frag) character

lies_in : (frags : List Frag) (character : ℕ) → covers frags character ≡ true → LiesIn frags character
lies_in [] character e = absurd (false≢true e)
lies_in (frag ∷ more) character e =
    elim (covers_cases frag more character e) [
      | inl here ↦ record { place = 0; within = omega arith; inside = here }
      | inr later ↦ (let l = lies_in more character later in record { place = suc l.place; within = (let w = l.within in omega (arith, w)); inside = l.inside })
    ]

-- no fragment of ascending ones is empty
pub full_at : (frags : List Frag) (i : ℕ) → are_ascending frags ≡ true → i < length frags → (slice_index_or frags i no_frag).start < (slice_index_or frags i no_frag).end
full_at [] i ascending within = absurd (omega (arith, within))
full_at (frag ∷ more) zero ascending within = not_empty frag more ascending
full_at (frag ∷ more) (suc i) ascending within = full_at more i (ascending_later frag more ascending) (omega (arith, within))

-- a character of a fragment is one of the fragments'
covered_at : (frags : List Frag) (i : ℕ) → i < length frags → (character : ℕ) → (slice_index_or frags i no_frag).start ≤ character → character < (slice_index_or frags i no_frag).end → covers frags character ≡ true
covered_at [] i within character low high = absurd (omega (arith, within))
covered_at (frag ∷ more) zero within character low high = covers_here frag more character low high
covered_at (frag ∷ more) (suc i) within character low high = covers_later frag more character (covered_at more i (omega (arith, within)) character low high)

-- a fragment begins at its start
begins_at : (frags : List Frag) (i : ℕ) → i < length frags → begins frags (slice_index_or frags i no_frag).start ≡ true
begins_at [] i within = absurd (omega (arith, within))
begins_at (frag ∷ more) zero within = or_left (frag.start == frag.start) (begins more frag.start) (eq-eqb frag.start frag.start refl)
begins_at (frag ∷ more) (suc i) within =
    or_right (frag.start == (slice_index_or more i no_frag).start) (begins more (slice_index_or more i no_frag).start) (begins_at more i (omega (arith, within)))

-- the lowest that was found passes, and each lower number that stands near one of the first fragments fails
pub record Finds (answers : ℕ → OvlKind → Bool → Type 0) (held : Held) (covered begun : Places) (frags : List Frag) (count : ℕ) (skip found : Option ℕ) : Type 0 where
  pub passes : FoundPasses answers held frags skip found
  pub others : (i : ℕ) → i < count → (number : ℕ) → StandsNear covered begun (slice_index_or frags i no_frag) number → IsBelow number found → Fails answers held frags skip number

pub finds_none : (answers : ℕ → OvlKind → Bool → Type 0) (held : Held) (covered begun : Places) (frags : List Frag) (skip : Option ℕ) → Finds answers held covered begun frags 0 skip None
finds_none answers held covered begun frags skip = record { passes = tt; others = λ i within number near below. absurd (omega (arith, within)) }

pub finds_more : (answers : ℕ → OvlKind → Bool → Type 0) (held : Held) (covered begun : Places) (frags : List Frag) (count : ℕ) (skip before after : Option ℕ)
    → Finds answers held covered begun frags count skip before → FoundPasses answers held frags skip after → IsNoHigher before after
    → ((number : ℕ) → StandsNear covered begun (slice_index_or frags count no_frag) number → IsBelow number after → Fails answers held frags skip number)
    → Finds answers held covered begun frags (count + 1) skip after
finds_more answers held covered begun frags count skip before after finds passes lower here = record {
  passes = passes;
  others = λ i within number near below.
      elim (cases_lt i count) [
        | inl earlier ↦ finds.others i earlier number near (lower number below)
        | inr last ↦ (let same : i ≡ count = omega (arith, within, last) in here number (subst (λ k. StandsNear covered begun (slice_index_or frags k no_frag) number) same near) below)
      ];
}

-- a span that shares a character with a fragment covers the fragment's first character, or begins in it
near_by_one : (covered begun : Places) (number : ℕ) (span : List Frag) (frag : Frag) (character : ℕ) → IsIn frag character → are_ascending span ≡ true → covers span character ≡ true
    → IsBeside covers covered number span → IsBeside begins begun number span → StandsNear covered begun frag number
near_by_one covered begun number span frag character inside ascending shares spread starts =
    let at = lies_in span character shares in
    let start : ℕ = (slice_index_or span at.place no_frag).start in
    let low = at.inside.behind_start in
    let high = at.inside.before_end in
    let from = inside.behind_start in
    let upto = inside.before_end in
    elim (cases_lt frag.start start) [
      | inl later ↦
          (let begun_there = starts start (begins_at span at.place at.within) in
          elim (cases_lt (bucket_of frag.start) (bucket_of start)) [
            | inl further ↦
                inr (record {
                  bucket = bucket_of start;
                  low = omega (arith, further);
                  high = bucket_le start (frag.end - 1) (omega (arith, low, upto));
                  there = begun_there;
                })
            | inr same ↦
                (let up = bucket_le frag.start start (omega (arith, later)) in
                inl (record {
                  bucket = bucket_of start;
                  low = up;
                  high = omega (arith, same);
                  there = spread start (covered_at span at.place at.within start (omega arith) (full_at span at.place ascending at.within));
                }))
          ])
      | inr before ↦
          inl (record {
            bucket = bucket_of frag.start;
            low = omega arith;
            high = omega arith;
            there = spread frag.start (covered_at span at.place at.within frag.start (omega (arith, before)) (omega (arith, from, high)));
          })
    ]

-- each number that is held and touches the fragments stands near one of them
touching_stands : (held : Held) (covered begun : Places) (frags : List Frag) (skip : Option ℕ) (number : ℕ) (span : List Frag)
    → IsKept held covered begun → map.get held number ≡ Some span → is_passed_over frags skip number span ≡ false → (i : ℕ) × (i < length frags) × StandsNear covered begun (slice_index_or frags i no_frag) number
touching_stands held covered begun frags skip number span kept is touches =
    let shares_one : shares span frags ≡ true =
    true_from_ne_false (shares span frags) (λ apart. both_ways (is_passed_over frags skip number span) touches (apart_passed frags span skip number (ap is_apart (kind_apart span frags apart)))) in
    let one = shared span frags (kept.ascending number span is) shares_one in
    let at = lies_in frags one.character one.in_b in (
      at.place,
      at.within,
      near_by_one covered begun number span (slice_index_or frags at.place no_frag) one.character at.inside (kept.ascending number span is) one.in_a (kept.spread number span is) (kept.starts number span is),
    )

-- all fragments were gone over
pub finds_all : (answers : ℕ → OvlKind → Bool → Type 0) (held : Held) (covered begun : Places) (frags : List Frag) (skip found : Option ℕ)
    → IsKept held covered begun → Finds answers held covered begun frags (length frags) skip found → IsFirstTouching answers held frags skip found
finds_all answers held covered begun frags skip None kept finds =
    λ number span is touches.
    let near = touching_stands held covered begun frags skip number span kept is touches in
    finds.others near.0 near.1 number near.2 tt span is touches
finds_all answers held covered begun frags skip (Some lowest) kept finds = record {
  passes = finds.passes;
  lowest = λ number below span is touches.
      let near = touching_stands held covered begun frags skip number span kept is touches in
      finds.others near.0 near.1 number near.2 below span is touches;
}
