-- How many contents the layers that stand have.
use Rattle.std.proofs.Common.{◌≡◌, ℕ, ◌+◌, ◌*◌, ◌<◌, ◌≤◌, ◌^◌, min, List, [], ◌∷◌, ◌++◌, length, take, get_or, sum_by, refl, sym, ap, ◌∙◌, arith, inl, inr, Option, Some, None, nat_lt, suc}
use Rattle.std.proofs.Math.Nat.{min-eq_left, min-eq_right}
use Rattle.std.proofs.lemmas.Bool.{cases_lt, le-ltb}
use Rattle.std.proofs.lemmas.List.{take_more}
use Rattle.std.proofs.lemmas.List.Sums.{sum_by-cons, sum_by_push}
use Rattle.std.specs.Option.{option_map_or}
use Rattle.layer_model.specs.Annotations.{Annotations}
use Rattle.match_scores.specs.declared.layer_in_table.Marks.{Marks}
use Rattle.match_scores.specs.Standing.{Layers, layer_of}
use Rattle.match_scores.specs.Places.{AreMarked, IsMarked, contents_in, contents_standing, size_of}

-- a sum of the lengths of two vectors is within its type
pub whole_sum : (m n s a b : ℕ) → m < 2 ^ 63 → n < 2 ^ 63 → s ≡ min (m + n) 18446744073709551615 → m ≡ a → n ≡ b → s ≡ a + b
whole_sum m n s a b h k e f g =
    let most : min (m + n) 18446744073709551615 ≡ m + n = min-eq_left (omega arith) in
    e ∙ most ∙ omega arith

-- ---- a sum that stops at the greatest number of its type

twice_cut : (x s most : ℕ) → min (min x most + s) most ≡ min (x + s) most
twice_cut x s most =
    elim (cases_lt x most) [
      | inl h ↦ let within : min x most ≡ x = min-eq_left (omega arith) in ap (λ y. min (y + s) most) within
      | inr h ↦
          let full : min x most ≡ most = min-eq_right h in
          let over : min (most + s) most ≡ most = min-eq_right (omega arith) in
          let past : min (x + s) most ≡ most = min-eq_right (omega arith) in
          ap (λ y. min (y + s) most) full ∙ over ∙ sym past
    ]

-- one layer more
pub size_more : (marks : List (Option Marks)) (i : ℕ) (one : Option Marks) → i < length marks → one ≡ get_or marks i one → sum_by size_of (take (i + 1) marks) ≡ sum_by size_of (take i marks) + size_of one
size_more marks i one h is =
    ap (sum_by size_of) (take_more marks i one h ∙ ap (λ x. take i marks ++ x ∷ []) (sym is)) ∙ sum_by_push size_of (take i marks) one

pub room_more : (sum size next old new most : ℕ) → old ≡ min (2 * sum + 128) most → new ≡ min (min (old + size) most + size) most → next ≡ sum + size → new ≡ min (2 * next + 128) most
room_more sum size next old new most e f g =
    let one : min (old + size) most ≡ min (2 * sum + 128 + size) most = ap (λ y. min (y + size) most) e ∙ twice_cut (2 * sum + 128) size most in
    let two : min (min (old + size) most + size) most ≡ min (2 * sum + 128 + size + size) most = ap (λ y. min (y + size) most) one ∙ twice_cut (2 * sum + 128 + size) size most in
    let same : 2 * sum + 128 + size + size ≡ 2 * next + 128 = omega arith in
    f ∙ two ∙ ap (λ y. min y most) same

-- ---- the layers that stand

-- what a number of the type is more than
pub less_cut : (x count most : ℕ) → count ≤ most → nat_lt (min x most) count ≡ nat_lt x count
less_cut x count most h =
    elim (cases_lt x most) [
      | inl l ↦ let within : min x most ≡ x = min-eq_left (omega arith) in ap (λ y. nat_lt y count) within
      | inr l ↦
          let full : min x most ≡ most = min-eq_right l in
          ap (λ y. nat_lt y count) full ∙ le-ltb most count h ∙ sym (le-ltb x count (omega arith))
    ]

size_is : (table : List ℕ) (o : Option Annotations) (m : Option Marks) → IsMarked table o m → size_of m ≡ option_map_or contents_in o 0
size_is table None None h = refl
size_is table None (Some m) h = absurd h
size_is table (Some l) None h = absurd h
size_is table (Some l) (Some m) h = h.size

sizes_are : (table : List ℕ) (layers : Layers) (marks : List (Option Marks)) → length marks ≡ length layers → ((rater : ℕ) → rater < length layers → IsMarked table (layer_of layers rater) (get_or marks rater None)) → sum_by size_of marks ≡ contents_standing layers
sizes_are table [] [] long each = refl
sizes_are table [] (m ∷ ms) long each = absurd (omega arith)
sizes_are table (o ∷ os) [] long each = absurd (omega arith)
sizes_are table (o ∷ os) (m ∷ ms) long each =
    let first : size_of m ≡ option_map_or contents_in o 0 = size_is table o m (each 0 (omega arith)) in
    let others : sum_by size_of ms ≡ contents_standing os = sizes_are table os ms (omega arith) (λ rater h. each (suc rater) (omega arith)) in
    sum_by-cons size_of m ms ∙ ap (λ n. n + sum_by size_of ms) first ∙ ap (λ n. option_map_or contents_in o 0 + n) others ∙ sym (sum_by-cons (λ layer. option_map_or contents_in layer 0) o os)

pub standing_sizes : (table : List ℕ) (layers : Layers) (marks : List (Option Marks)) → AreMarked table layers marks → sum_by size_of marks ≡ contents_standing layers
standing_sizes table layers marks are = sizes_are table layers marks are.long are.each
