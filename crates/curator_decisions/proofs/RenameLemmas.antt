-- The new IDs of the annotations of layers.
use Rattle.std.proofs.Common.{◌≡◌, ℕ, suc, ◌+◌, ◌-◌, ◌<◌, ◌≤◌, cond, eqb, List, [], ◌∷◌, ◌++◌, length, get_or, take, drop, sym, ap, ◌∙◌, subst, arith, Option, Some}
use Rattle.std.proofs.Math.Seq.{drop-cons}
use Rattle.std.proofs.lemmas.List.{take_more}
use Rattle.std.specs.Ordering.{nat_cmp}
use Rattle.std.specs.Cmp.{unsigned_tied}
use Rattle.std.specs.BTreeMap.{BTreeMap, get, is_at}
use Rattle.layer_model.specs.Classes.{rank}
use Rattle.content_keys.specs.declared.placed_layer.Placed.{Placed}
use Rattle.content_keys.specs.declared.placed_layer.PlacedLayer.{PlacedLayer}
use Rattle.curator_decisions.specs.Placing.{AreNames, called}

-- one annotation more, before the others
pub called_more : {T : Type 0} (new : ℕ → T) (marks : List Placed) (left : ℕ) (one : Placed) → 0 < left → left ≤ length marks → one ≡ get_or marks (left - 1) one → (old fresh : ℕ → Option T) → ((q : ℕ) → old q ≡ called new (drop left marks) q)
    → (value : T) → value ≡ new one.place → (key : ℕ) → key ≡ rank one.id → ((q : ℕ) → fresh q ≡ cond (is_at (nat_cmp key) q) (Some value) (old q)) → (q : ℕ) → fresh q ≡ called new (drop (left - 1) marks) q
called_more new marks left one some within at old fresh so value is key same up q =
    let n : suc (left - 1) ≡ left = omega arith in
    let front : drop (left - 1) marks ≡ one ∷ drop left marks = drop-cons marks (left - 1) one (omega arith) ∙ (λ i. sym at i ∷ drop (n i) marks) in
    up q ∙ (λ i. cond (unsigned_tied key q i) (Some (is i)) (so q i)) ∙ ap (λ k. cond (eqb k q) (Some (new one.place)) (called new (drop left marks) q)) same ∙ ap (λ ms. called new ms q) (sym front)

names_push : {T : Type 0} (new : ℕ → T) (rows : List PlacedLayer) (all : List (BTreeMap ℕ T)) (row : PlacedLayer) (names : BTreeMap ℕ T) → AreNames new rows all → ((place : ℕ) → get nat_cmp names place ≡ called new row.marks.items place)
    → AreNames new (rows ++ row ∷ []) (all ++ names ∷ [])
names_push new [] [] row names so here = (here, tt)
names_push new [] (n ∷ ns) row names so here = absurd so
names_push new (r ∷ rs) [] row names so here = absurd so
names_push new (r ∷ rs) (n ∷ ns) row names so here = (so.0, names_push new rs ns row names so.1 here)

-- one layer more
pub names_more : {T : Type 0} (new : ℕ → T) (rows : List PlacedLayer) (i : ℕ) (row : PlacedLayer) → i < length rows → row ≡ get_or rows i row → (old fresh : List (BTreeMap ℕ T)) (names : BTreeMap ℕ T) → fresh ≡ old ++ names ∷ []
    → AreNames new (take i rows) old → (marks : List Placed) → marks ≡ row.marks.items → ((place : ℕ) → get nat_cmp names place ≡ called new marks place) → AreNames new (take (i + 1) rows) fresh
names_more {T} new rows i row h at old fresh names pushed so marks is here =
    let whole : take (i + 1) rows ≡ take i rows ++ row ∷ [] = take_more rows i row h ∙ ap (λ r. take i rows ++ r ∷ []) (sym at) in
    let all = names_push new (take i rows) old row names so (λ place. here place ∙ ap (λ ms. called new ms place) is) in
    subst (λ (p : List PlacedLayer × List (BTreeMap ℕ T)). AreNames new p.0 p.1) (λ j. (sym whole j, sym pushed j)) all
