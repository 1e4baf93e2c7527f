-- What carrying a list of places says of each place.
use Rattle.std.proofs.Common.{◌≡◌, ℕ, ◌⊎◌, List, [], ◌∷◌, map, refl, sym, ap, ◌∙◌, inl, inr, Option, Some, None, option_map}
use Rattle.std.specs.Option.{unwrap_or}
use Rattle.std.proofs.lemmas.Option.{same_Some}
use Rattle.content_keys.specs.Numbers.{sorted}
use Rattle.content_keys.specs.Nodes.{IsIn, Names, Node}
use Rattle.content_keys.specs.Carrying.{moved_to, cons_moved, all_moved, cons_linked, all_linked, Carries, Sorts}
use Rattle.content_keys.proofs.BagLemmas.{map_map}

pub record Moves {I : Type 0} (ms : I → Option ℕ) (xs : List I) (ys : List ℕ) : Type 0 where
  pub all : ys ≡ map (moved_to ms) xs
  pub each : (x : I) → IsIn x xs → ms x ≡ Some (moved_to ms x)

to_of : {I : Type 0} (ms : I → Option ℕ) (x : I) (m : ℕ) → ms x ≡ Some m → m ≡ moved_to ms x
to_of ms x m e = sym (ap (λ o. unwrap_or o 0) e)

moves_itself : {I : Type 0} (ms : I → Option ℕ) (x y : I) (m : ℕ) → ms x ≡ Some m → y ≡ x → ms y ≡ Some (moved_to ms y)
moves_itself ms x y m e q = let t : m ≡ moved_to ms x = to_of ms x m e in ap ms q ∙ e ∙ ap Some (t ∙ ap (moved_to ms) (sym q))

head_moves : {I : Type 0} (ms : I → Option ℕ) (x : I) (m : ℕ) (xs : List I) (zs ys : List ℕ) → ms x ≡ Some m → Moves ms xs zs → m ∷ zs ≡ ys → Moves ms (x ∷ xs) ys
head_moves {I} ms x m xs zs ys e h is =
    let t : m ≡ moved_to ms x = to_of ms x m e in
    record {
      all = sym is ∙ (λ i. t i ∷ h.all i);
      each = λ y k. elim k [ inl q ↦ moves_itself ms x y m e q | inr q ↦ h.each y q ];
    }

pub moves_from : {I : Type 0} (ms : I → Option ℕ) (xs : List I) (ys : List ℕ) → all_moved ms xs ≡ Some ys → Moves ms xs ys
moves_from {I} ms [] ys e = record { all = sym (same_Some _ _ e); each = λ x k. absurd k }
moves_from {I} ms (x ∷ xs) ys e =
    elim (ms x) as (λ o. ms x ≡ o → cons_moved o (all_moved ms xs) ≡ Some ys → Moves ms (x ∷ xs) ys) [
      | None ↦ λ p q. cc
      | Some m ↦ λ p q.
          elim (all_moved ms xs) as (λ o. all_moved ms xs ≡ o → option_map (λ l. m ∷ l) o ≡ Some ys → Moves ms (x ∷ xs) ys) [
            | None ↦ λ r s. cc
            | Some zs ↦ λ r s. head_moves ms x m xs zs ys p (moves_from ms xs zs r) (same_Some _ _ s)
          ] refl q
    ] refl e

pub record Links {I : Type 0} (ms : I → Option ℕ) (xs : List (ℕ × I)) (ys : List (ℕ × ℕ)) : Type 0 where
  pub all : ys ≡ map (λ p. (p.0, moved_to ms p.1)) xs
  pub each : (r : ℕ) (x : I) → IsIn (r, x) xs → ms x ≡ Some (moved_to ms x)

head_links : {I : Type 0} (ms : I → Option ℕ) (p : ℕ × I) (m : ℕ) (xs : List (ℕ × I)) (zs ys : List (ℕ × ℕ)) → ms p.1 ≡ Some m → Links ms xs zs → (p.0, m) ∷ zs ≡ ys → Links ms (p ∷ xs) ys
head_links {I} ms p m xs zs ys e h is =
    let t : m ≡ moved_to ms p.1 = to_of ms p.1 m e in
    record {
      all = sym is ∙ (λ i. (p.0, t i) ∷ h.all i);
      each = λ r y k. elim k [ inl q ↦ moves_itself ms p.1 y m e (ap (λ (z : ℕ × I). z.1) q) | inr q ↦ h.each r y q ];
    }

pub links_from : {I : Type 0} (ms : I → Option ℕ) (xs : List (ℕ × I)) (ys : List (ℕ × ℕ)) → all_linked ms xs ≡ Some ys → Links ms xs ys
links_from {I} ms [] ys e = record { all = sym (same_Some _ _ e); each = λ r x k. absurd k }
links_from {I} ms (p ∷ xs) ys e =
    elim (ms p.1) as (λ o. ms p.1 ≡ o → cons_linked p.0 o (all_linked ms xs) ≡ Some ys → Links ms (p ∷ xs) ys) [
      | None ↦ λ a q. cc
      | Some m ↦ λ a q.
          elim (all_linked ms xs) as (λ o. all_linked ms xs ≡ o → option_map (λ l. (p.0, m) ∷ l) o ≡ Some ys → Links ms (p ∷ xs) ys) [
            | None ↦ λ r s. cc
            | Some zs ↦ λ r s. head_links ms p m xs zs ys a (links_from ms xs zs r) (same_Some _ _ s)
          ] refl q
    ] refl e

-- a place that has nowhere to go
pub record Lost {I : Type 0} (ms : I → Option ℕ) (s : Node I) : Type 0 where
  pub place : I
  pub named : Names place s
  pub gone : ms place ≡ None

pub lost_place : {I : Type 0} (ms : I → Option ℕ) (xs : List I) → all_moved ms xs ≡ None → (x : I) × (IsIn x xs × (ms x ≡ None))
lost_place {I} ms [] e = cc
lost_place {I} ms (x ∷ xs) e =
    elim (ms x) as (λ o. ms x ≡ o → cons_moved o (all_moved ms xs) ≡ None → (y : I) × (((y ≡ x) ⊎ IsIn y xs) × (ms y ≡ None))) [
      | None ↦ λ p q. (x, (inl refl, p))
      | Some m ↦ λ p q.
          elim (all_moved ms xs) as (λ o. all_moved ms xs ≡ o → option_map (λ l. m ∷ l) o ≡ None → (y : I) × (((y ≡ x) ⊎ IsIn y xs) × (ms y ≡ None))) [
            | None ↦ λ r s. let k : (y : I) × (IsIn y xs × (ms y ≡ None)) = lost_place ms xs r in (k.0, (inr k.1.0, k.1.1))
            | Some zs ↦ λ r s. cc
          ] refl q
    ] refl e

pub lost_link : {I : Type 0} (ms : I → Option ℕ) (xs : List (ℕ × I)) → all_linked ms xs ≡ None → (p : ℕ × I) × (IsIn p xs × (ms p.1 ≡ None))
lost_link {I} ms [] e = cc
lost_link {I} ms (x ∷ xs) e =
    elim (ms x.1) as (λ o. ms x.1 ≡ o → cons_linked x.0 o (all_linked ms xs) ≡ None → (y : ℕ × I) × (((y ≡ x) ⊎ IsIn y xs) × (ms y.1 ≡ None))) [
      | None ↦ λ p q. (x, (inl refl, p))
      | Some m ↦ λ p q.
          elim (all_linked ms xs) as (λ o. all_linked ms xs ≡ o → option_map (λ l. (x.0, m) ∷ l) o ≡ None → (y : ℕ × I) × (((y ≡ x) ⊎ IsIn y xs) × (ms y.1 ≡ None))) [
            | None ↦ λ r s. let k : (y : ℕ × I) × (IsIn y xs × (ms y.1 ≡ None)) = lost_link ms xs r in (k.0, (inr k.1.0, k.1.1))
            | Some zs ↦ λ r s. cc
          ] refl q
    ] refl e

pub lost_from : {I : Type 0} (ms : I → Option ℕ) (s : Node I) → (all_moved ms s.named ≡ None) ⊎ (all_linked ms s.bag ≡ None) → Lost ms s
lost_from {I} ms s h = elim h [
  | inl e ↦ let k : (x : I) × (IsIn x s.named × (ms x ≡ None)) = lost_place ms s.named e in record { place = k.0; named = inl k.1.0; gone = k.1.1 }
  | inr e ↦ let k : (p : ℕ × I) × (IsIn p s.bag × (ms p.1 ≡ None)) = lost_link ms s.bag e in record { place = k.0.1; named = inr (k.0.0, k.1.0); gone = k.1.1 }
]

pub carried_all : {I : Type 0} (ms : I → Option ℕ) (s : Node I) (own named : List ℕ) (bag new : List (ℕ × ℕ)) → own ≡ s.own → Some named ≡ all_moved ms s.named → Some bag ≡ all_linked ms s.bag → Sorts bag new
    → Carries ms s (Some record { own = own; named = named; bag = new })
carried_all {I} ms s own named bag new o n b up =
    let m : Moves ms s.named named = moves_from ms s.named named (sym n) in
    let l : Links ms s.bag bag = links_from ms s.bag bag (sym b) in (
      record {
        own = o;
        named = m.all;
        bag = λ g. up.bag g ∙ ap (λ xs. sorted (map g xs)) l.all ∙ ap sorted (map_map g (λ p. (p.0, moved_to ms p.1)) s.bag);
        rising = up.rising;
      },
      λ x k. elim k [ inl q ↦ m.each x q | inr q ↦ l.each q.0 x q.1 ],
    )
