-- Which layers have a place.
use Rattle.std.proofs.Common.{◌≡◌, ℕ, suc, ◌+◌, ◌-◌, ◌*◌, ◌^◌, ◌<◌, ◌≤◌, Bool, true, false, cond, ◌==◌, List, [], ◌∷◌, ◌++◌, map, length, get_or, take, drop, refl, sym, ap, ◌∙◌, subst, arith, All}
use mir.Val.{bool_byte}
use Rattle.std.proofs.Math.Nat.{pow-suc}
use Rattle.std.proofs.Math.Seq.{drop-cons}
use Rattle.std.proofs.lemmas.List.{map-append, take_more}
use Rattle.std.specs.List.{list_any}
use Rattle.content_keys.specs.declared.placed_layer.Placed.{Placed}
use Rattle.content_keys.specs.declared.placed_layer.PlacedLayer.{PlacedLayer}
use Rattle.unanimous_merge.specs.Items.{number_of_bits}
use Rattle.unanimous_merge.specs.Rows.{having}
use Rattle.unanimous_merge.proofs.ListLemmas.{all_map, any_map}

-- a flag as a number
pub byte_is : (b : Bool) → bool_byte b ≡ cond b 1 0
byte_is true = refl
byte_is false = refl

pub bits_small : (n left holders bit : ℕ) → 0 < left → left ≤ n → bit ≤ 1 → holders < 2 ^ (n - left) → 2 * holders + bit < 2 ^ (n - (left - 1))
bits_small n left holders bit some within small less =
    let e : n - (left - 1) ≡ suc (n - left) = omega arith in
    let double : 2 ^ suc (n - left) ≡ 2 ^ (n - left) * 2 = pow-suc 2 (n - left) in
    let same : 2 ^ (n - (left - 1)) ≡ 2 ^ suc (n - left) = ap (λ k. 2 ^ k) e in
    omega (arith, double, same)

bit_small : (b : Bool) → cond b 1 0 ≤ 1
bit_small true = omega arith
bit_small false = omega arith

pub bit_at_most : (bit : ℕ) (b : Bool) → bit ≡ cond b 1 0 → bit ≤ 1
bit_at_most bit b e = let h : cond b 1 0 ≤ 1 = bit_small b in omega (arith, e, h)

-- ---- the layers one by one

pub places_within : (count : ℕ) (rows : List PlacedLayer) → All (λ row. All (λ p. p.place < count) row.marks.items) rows → (i : ℕ) (row : PlacedLayer) → i < length rows → row ≡ get_or rows i row
    → (marks : List Placed) → marks ≡ row.marks.items → (places : List ℕ) → places ≡ map (λ p. p.place) marks → All (λ place. place < count) places
places_within count rows all i row h at marks same places is =
    let P : List Placed → Type 0 = All (λ p. p.place < count) in
    let Q : List ℕ → Type 0 = All (λ place. place < count) in
    let R : PlacedLayer → Type 0 = λ r. All (λ p. p.place < count) r.marks.items in
    subst Q (sym is) (all_map (λ place. place < count) (λ (p : Placed). p.place) marks (subst P (sym same) (subst R (sym at) (all i row h))))

abbrev pub has_mark : ℕ → PlacedLayer → Bool
has_mark place row = list_any (λ p. p.place == place) row.marks.items

pub standing_more : (rows : List PlacedLayer) (i : ℕ) (row : PlacedLayer) → i < length rows → row ≡ get_or rows i row → (marks : List Placed) → marks ≡ row.marks.items → (places : List ℕ) → places ≡ map (λ p. p.place) marks
    → (here : List Bool) → (place : ℕ) → get_or here place false ≡ list_any (λ one. one == place) places → (old : List (List Bool)) → having place old ≡ map (has_mark place) (take i rows)
    → having place (old ++ here ∷ []) ≡ map (has_mark place) (take (i + 1) rows)
standing_more rows i row h at marks same places is here place has old so_far =
    let bit : get_or here place false ≡ has_mark place row =
    has ∙ ap (list_any (λ one. one == place)) is ∙ any_map (λ one. one == place) (λ (p : Placed). p.place) marks ∙ ap (list_any (λ p. p.place == place)) same in
    map-append (λ (r : List Bool). get_or r place false) old (here ∷ [])
    ∙ (λ j. so_far j ++ bit j ∷ [])
    ∙ sym (ap (map (has_mark place)) (take_more rows i row h) ∙ map-append (has_mark place) (take i rows) (get_or rows i row ∷ []) ∙ ap (λ r. map (has_mark place) (take i rows) ++ has_mark place r ∷ []) (sym at))

-- ---- the loop over the layers, from the last

-- one layer more, before those that are counted
module _ {R : Type 0} (items : R → List Bool) (rows : List R) (left : ℕ) (row : R) (some : 0 < left) (within : left ≤ length rows) (at : row ≡ get_or rows (left - 1) row) (place bit : ℕ)
    (is : bit ≡ cond (get_or (items row) place false) 1 0) (holders : ℕ) (so_far : holders ≡ number_of_bits (having place (map items (drop left rows)))) where
  front : drop (left - 1) rows ≡ row ∷ drop left rows
  front = let n : suc (left - 1) ≡ left = omega arith in drop-cons rows (left - 1) row (omega arith) ∙ (λ i. sym at i ∷ drop (n i) rows)

  pub bits_next : 2 * holders + bit ≡ number_of_bits (having place (map items (drop (left - 1) rows)))
  bits_next =
      let whole : number_of_bits (having place (map items (drop (left - 1) rows))) ≡ cond (get_or (items row) place false) 1 0 + 2 * number_of_bits (having place (map items (drop left rows))) =
      ap (λ rs. number_of_bits (having place (map items rs))) front in
      let a : 2 * holders ≡ 2 * number_of_bits (having place (map items (drop left rows))) = ap (λ k. 2 * k) so_far in
      omega (arith, whole, a, is)
