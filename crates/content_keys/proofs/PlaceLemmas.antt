-- The place of one content in another table, from those of what it names.
use Rattle.std.proofs.Common.{◌≡◌, ℕ, ◌<◌, List, length, get_or, subst, arith, Option, Some, None}
use Rattle.content_keys.specs.Nodes.{Names, Node}
use Rattle.content_keys.specs.Tables.{IsTable, IsPlace, IsAt, values}
use Rattle.content_keys.specs.Carrying.{AreMoves, Carries, move_at, moved_to}
use Rattle.content_keys.proofs.TableLemmas.{read}
use Rattle.content_keys.proofs.MoveLemmas.{placed, unplaced, lost}
use Rattle.content_keys.proofs.CarryLemmas.{Lost, lost_from}

module _ (A B : List (Node ℕ)) (a : IsTable A) (b : IsTable B) (ms : List (Option ℕ)) (right : AreMoves A B ms) (i : ℕ) (h : i < length A) (long : length ms ≡ i) (d : Node ℕ) where
  abbrev move : ℕ → Option ℕ
  move = move_at ms

  there : (x : ℕ) → Names x (get_or A i d) → IsPlace (values B) (read (values A) x) (move x)
  there x k = let l : x < i = a.below i x d h k in right x (omega arith)

  there_some : (x : ℕ) → Names x (get_or A i d) → move x ≡ Some (moved_to move x) → IsPlace (values B) (read (values A) x) (Some (moved_to move x))
  there_some x k e = let P : Option ℕ → Type 0 = IsPlace (values B) (read (values A) x) in subst P e (there x k)

  pub place_found : (u : Node ℕ) (o : Option ℕ) → Carries move (get_or A i d) (Some u) → IsAt B u o → IsPlace (values B) (read (values A) i) o
  place_found u None c n = unplaced A B a b d i h (moved_to move) u c.0 (λ x k. there_some x k (c.1 x k)) (λ j lt. n j d lt)
  place_found u (Some j) c n = placed A B a b d i h (moved_to move) u c.0 (λ x k. there_some x k (c.1 x k)) j n.0 (n.1 d)

  pub place_lost : Carries move (get_or A i d) None → IsPlace (values B) (read (values A) i) None
  place_lost c =
      let l : Lost move (get_or A i d) = lost_from move (get_or A i d) c in
      let P : Option ℕ → Type 0 = IsPlace (values B) (read (values A) l.place) in
      lost A B a b d i h l.place l.named (subst P l.gone (there l.place l.named))
