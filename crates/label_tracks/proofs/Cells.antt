use Rattle.std.proofs.Common.{◌≡◌, ℕ, ◌+◌, ◌*◌, ◌<◌, ◌==◌, ◌&&◌, false, List, get_or, set}
use Rattle.std.proofs.lemmas.List.{get_or-set_other}
use Rattle.std.proofs.lemmas.Nat.{same_from_place}
use Rattle.std.proofs.lemmas.Bool.{both_ways, and_from, eq-eqb}

-- a write to one cell leaves every other one
pub cells_apart : (cells : List ℕ) (w c k x y v : ℕ) → k < w → y < w → ((x == c) && (y == k)) ≡ false → get_or (set cells (c * w + k) v) (x * w + y) 0 ≡ get_or cells (x * w + y) 0
cells_apart cells w c k x y v hk hy h =
    get_or-set_other cells (c * w + k) (x * w + y) v 0 (λ e.
    let p : (x ≡ c) × (y ≡ k) = same_from_place x y c k w hy hk e in
    both_ways _ h (and_from (x == c) (y == k) (eq-eqb x c p.0) (eq-eqb y k p.1)))
