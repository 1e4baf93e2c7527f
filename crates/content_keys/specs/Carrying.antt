-- A content carried over: each name replaced by the place that it moves to (private calls only).
use Rattle.std.specs.Prelude.{◌≡◌, ◌⊎◌, ℕ, ◌<◌, List, [], ◌∷◌, map, length, slice_index, slice_index_or, Option, Some, None, option_map, unwrap_or, MatchOption}
use Rattle.content_keys.specs.Numbers.{sorted}
use Rattle.content_keys.specs.Nodes.{Node, Names}
use Rattle.content_keys.specs.Tables.{IsPlace, link_rank, values}

-- a place before places, where there is one
abbrev pub cons_moved : Option ℕ → Option (List ℕ) → Option (List ℕ)
cons_moved None o = None
cons_moved (Some m) o = option_map (λ l. m ∷ l) o

-- the places that names move to, where each has one
abbrev pub all_moved : {I : Type 0} → (I → Option ℕ) → List I → Option (List ℕ)
all_moved move [] = Some []
all_moved move (x ∷ xs) = cons_moved (move x) (all_moved move xs)

-- a role and a place before others, where there is one
abbrev pub cons_linked : ℕ → Option ℕ → Option (List (ℕ × ℕ)) → Option (List (ℕ × ℕ))
cons_linked r None o = None
cons_linked r (Some m) o = option_map (λ l. (r, m) ∷ l) o

-- the same of names with a role each
abbrev pub all_linked : {I : Type 0} → (I → Option ℕ) → List (ℕ × I) → Option (List (ℕ × ℕ))
all_linked move [] = Some []
all_linked move (p ∷ ps) = cons_linked p.0 (move p.1) (all_linked move ps)

-- where a name moves to, if it moves
abbrev pub moved_to : {I : Type 0} → (I → Option ℕ) → I → ℕ
moved_to move x = unwrap_or (move x) 0

-- the same bag, in ascending order
pub record Sorts (xs ys : List (ℕ × ℕ)) : Type 0 where
  pub bag : (g : ℕ × ℕ → ℕ) → sorted (map g ys) ≡ sorted (map g xs)
  pub rising : sorted (map link_rank ys) ≡ map link_rank ys

-- the second node is the first with each name carried over, and its bag ascends
pub record IsCarried {I : Type 0} (f : I → ℕ) (s : Node I) (u : Node ℕ) : Type 0 where
  pub own : u.own ≡ s.own
  pub named : u.named ≡ map f s.named
  pub bag : (g : ℕ × ℕ → ℕ) → sorted (map g u.bag) ≡ sorted (map (λ p. g (p.0, f p.1)) s.bag)
  pub rising : sorted (map link_rank u.bag) ≡ map link_rank u.bag

-- the node carried over, or one of its names has nowhere to go
abbrev pub Carries : {I : Type 0} → (I → Option ℕ) → Node I → Option (Node ℕ) → Type 0
Carries {I} move s o = MatchOption o
    ((all_moved move s.named ≡ None) ⊎ (all_linked move s.bag ≡ None))
    (λ u. IsCarried (moved_to move) s u × ((x : I) → Names x s → move x ≡ Some (moved_to move x)))

-- the move of a place in a list of moves
abbrev pub move_at : List (Option ℕ) → ℕ → Option ℕ
move_at moves place = slice_index_or moves place None

-- the moves of contents of one table to those of another with the same number
abbrev pub AreMoves : List (Node ℕ) → List (Node ℕ) → List (Option ℕ) → Type 0
AreMoves ours others moves = (k : ℕ) → k < length moves → IsPlace (values others) (slice_index (values ours) k) (move_at moves k)
