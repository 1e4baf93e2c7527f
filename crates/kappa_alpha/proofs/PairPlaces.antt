use Rattle.std.proofs.Common.{◌≡◌, ℕ, ◌+◌, ◌*◌, ◌<◌, ◌==◌, ◌&&◌, true, false, List, length, get_or, set, Option, Some, arith, ◌∙◌, ap, inl, inr, length-set}
use Rattle.std.proofs.lemmas.Bool.{cases_Bool, cases_eq, and_parts, eqb-true, cond-true, cond-false, and_from, eq-eqb, both_ways}
use Rattle.std.proofs.lemmas.List.{get_or-set_same, get_or-set_other, get_or_default}
use Rattle.std.proofs.lemmas.Nat.{mul-add-lt, same_from_place}
use Rattle.label_tracks.specs.Grid.{Grid, cell_of}
use Rattle.kappa_alpha.specs.Columns.{worth}
use Rattle.kappa_alpha.specs.Pairs.{PairsFit, placed, no_grid, pair_cell}

-- the place of two raters' table
pub place_in : (n a b : ℕ) (grids : List Grid) → a < n → b < n → length grids ≡ n * n → a * n + b < length grids
place_in n a b grids ha hb e = rw e (mul-add-lt a n b n ha hb)

pub placed_here : (w a b p q c k : ℕ) (x z : Option ℕ) → ((p == a) && (q == b)) ≡ true → placed w a b x z p q c k ≡ worth w c k x z
unfolding placed
placed_here w a b p q c k x z e = cond-true ((p == a) && (q == b)) (worth w c k x z) 0 e

pub placed_elsewhere : (w a b p q c k : ℕ) (x z : Option ℕ) → ((p == a) && (q == b)) ≡ false → placed w a b x z p q c k ≡ 0
unfolding placed
placed_elsewhere w a b p q c k x z e = cond-false ((p == a) && (q == b)) (worth w c k x z) 0 e

pub other_place : (n a b p q : ℕ) → b < n → q < n → ((p == a) && (q == b)) ≡ false → p * n + q ≡ a * n + b → ⊥
other_place n a b p q hb hq h e =
    let s : (p ≡ a) × (q ≡ b) = same_from_place p q a b n hq hb e in
    both_ways _ h (and_from (p == a) (q == b) (eq-eqb p a s.0) (eq-eqb q b s.1))

-- the table that was shifted and every other one
pub pair_shifted : (grids : List Grid) (n w a b c k u v : ℕ) (g h : Grid) → a < n → b < n → PairsFit n w grids → g ≡ get_or grids (a * n + b) g → ((x y : ℕ) → x < g.width → y < g.width → cell_of h x y + worth u x y (Some c) (Some k) ≡ cell_of g x y + worth v x y (Some c) (Some k)) → (p q x y : ℕ) → p < n → q < n → x < w → y < w → pair_cell n (set grids (a * n + b) h) p q x y + placed u a b (Some c) (Some k) p q x y ≡ pair_cell n grids p q x y + placed v a b (Some c) (Some k) p q x y
unfolding pair_cell
pair_shifted grids n w a b c k u v g h ha hb fit is each p q x y hp hq hx hy =
    let l : a * n + b < length grids = place_in n a b grids ha hb fit.whole in
    let e : g ≡ get_or grids (a * n + b) no_grid = is ∙ get_or_default grids (a * n + b) g no_grid l in
    let ew : g.width ≡ w = ap (λ (v : Grid). v.width) e ∙ fit.widths (a * n + b) l in
    elim (cases_Bool ((p == a) && (q == b))) [
      | inl t ↦
          let s : ((p == a) ≡ true) × ((q == b) ≡ true) = and_parts (p == a) (q == b) t in
          rw (placed_here u a b p q x y (Some c) (Some k) t, placed_here v a b p q x y (Some c) (Some k) t, eqb-true p a s.0, eqb-true q b s.1, get_or-set_same grids (a * n + b) h no_grid l, ← e) (each x y (omega (arith, ew, hx)) (omega (arith, ew, hy)))
      | inr t ↦
          rw (get_or-set_other grids (a * n + b) (p * n + q) h no_grid (other_place n a b p q hb hq t)) (omega (arith, placed_elsewhere u a b p q x y (Some c) (Some k) t, placed_elsewhere v a b p q x y (Some c) (Some k) t))
    ]

-- the tables still fit after a write of the same width
pub pairs_fit_set : (grids : List Grid) (n w i : ℕ) (g h : Grid) → PairsFit n w grids → i < length grids → g ≡ get_or grids i g → h.width ≡ g.width → PairsFit n w (set grids i h)
pairs_fit_set grids n w i g h fit l is e = record {
  whole = simp length-set fit.whole;
  widths = λ j lj. let ll : j < length grids = simp length-set at lj in
      elim (cases_eq j i) [
        | inl q ↦ rw (q, get_or-set_same grids i h no_grid l) (e ∙ ap (λ (v : Grid). v.width) (is ∙ get_or_default grids i g no_grid l) ∙ fit.widths i l)
        | inr q ↦ rw (get_or-set_other grids i j h no_grid q) (fit.widths j ll)
      ];
}

-- the grid that an index gives, as the table has it
pub cell_read : (grids : List Grid) (n w a b c k : ℕ) (g : Grid) → a < n → b < n → PairsFit n w grids → g ≡ get_or grids (a * n + b) g → cell_of g c k ≡ pair_cell n grids a b c k
unfolding pair_cell
cell_read grids n w a b c k g ha hb fit is =
    ap (λ v. cell_of v c k) (is ∙ get_or_default grids (a * n + b) g no_grid (place_in n a b grids ha hb fit.whole))

pub width_read : (grids : List Grid) (n w a b : ℕ) (g : Grid) → a < n → b < n → PairsFit n w grids → g ≡ get_or grids (a * n + b) g → g.width ≡ w
width_read grids n w a b g ha hb fit is =
    let l : a * n + b < length grids = place_in n a b grids ha hb fit.whole in
    ap (λ (v : Grid). v.width) (is ∙ get_or_default grids (a * n + b) g no_grid l) ∙ fit.widths (a * n + b) l
