-- Chains of events.
use Rattle.std.proofs.Common.{◌≡◌, ℕ, zero, suc, Bool, true, false, ◌||◌, List, [], ◌∷◌, refl, ap, Some, None, is_some}
use Rattle.std.specs.List.{list_any}
use Rattle.std.specs.Option.{option_map_or}
use Rattle.std.specs.FinMap as finite
use Rattle.layer_model.specs.Annotations.{Annotations}
use Rattle.layer_model.specs.Coherent.{events_among, event_arguments, begins_chain}

-- what passes one test passes the other
any_more : (p q : ℕ → Bool) → ((n : ℕ) → p n ≡ true → q n ≡ true) → (ns : List ℕ) → list_any p ns ≡ true → list_any q ns ≡ true
any_more p q more [] h = h
any_more p q more (n ∷ ns) h =
    elim (p n) as (λ b. p n ≡ b → (b || list_any p ns) ≡ true → (q n || list_any q ns) ≡ true) [
      | true ↦ λ e _. ap (λ v. v || list_any q ns) (more n e)
      | false ↦ λ _ g. or_right (q n) _ (any_more p q more ns g)
    ] refl h
  where
    or_right : (a b : Bool) → b ≡ true → (a || b) ≡ true
    or_right true b e = refl
    or_right false b e = e

-- what has an argument is an event
is_event : (l : Annotations) (p : ℕ → Bool) (n : ℕ) → list_any p (event_arguments l n) ≡ true → finite.contains_key l.events n ≡ true
is_event l p n h =
    elim (finite.get l.events n) as (λ o. list_any p (option_map_or (λ event. events_among event.args) o []) ≡ true → is_some o ≡ true) [
      | None ↦ λ g. g
      | Some event ↦ λ _. refl
    ] h

pub circles : (l : Annotations) (p : ℕ → Bool) → ((n : ℕ) → p n ≡ true → list_any p (event_arguments l n) ≡ true) → (count n : ℕ) → p n ≡ true → begins_chain l count n ≡ true
unfolding begins_chain
circles l p each zero n h = refl
circles l p each (suc zero) n h = is_event l p n (each n h)
circles l p each (suc (suc more)) n h = any_more p (begins_chain l (suc more)) (λ m g. circles l p each (suc more) m g) (event_arguments l n) (each n h)

pub shorter : (l : Annotations) (count n : ℕ) → begins_chain l (suc count) n ≡ true → begins_chain l count n ≡ true
unfolding begins_chain
shorter l zero n h = refl
shorter l (suc zero) n h = is_event l (begins_chain l 1) n h
shorter l (suc (suc more)) n h = any_more (begins_chain l (suc (suc more))) (begins_chain l (suc more)) (λ m g. shorter l (suc more) m g) (event_arguments l n) h
