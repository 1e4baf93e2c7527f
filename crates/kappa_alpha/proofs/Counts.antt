use Rattle.std.proofs.Common.{◌≡◌, ℕ, ◌+◌, ◌*◌, ◌<◌, ◌≤◌, ◌==◌, ◌&&◌, Bool, true, false, cond, List, [], ◌∷◌, length, get_or, set, take, Option, Some, None, refl, arith, sym, ◌∙◌, ap, inl, inr, ◌-◌, ◌/◌}
use Rattle.std.specs.Prelude.{nat_lt, if◌then◌else◌}
use Rattle.std.specs.List.{sum_by, count_by}
use Rattle.std.specs.Option.{is_some}
use Rattle.std.proofs.lemmas.Bool.{cases_lt, lt-ltb, le-ltb, ne_eqb}
use Rattle.std.proofs.lemmas.Nat.{le-div}
use Rattle.std.proofs.lemmas.List.Sums.{sum_by-cons, sum_by-set, sum_by_more, sum_by_more_le}
use Rattle.kappa_alpha.specs.Columns.{worth, toward, ordered, raters_in, weight, is_label, label_at, unit_at, coincidence_at}
use Rattle.kappa_alpha.specs.Counted.{tally, unit_of, Count, CoincidenceCount, LabelCount, ConfusionCount, UnitCount, IsCount, held, adds, adds_at, adds_beside, weights_at, IsShaped}
use Rattle.kappa_alpha.specs.Steps.{move_steps}
use Rattle.kappa_alpha.specs.Pairs.{pair_cell, shares, IsEmpty}
use Rattle.kappa_alpha.specs.declared.tallies.Tallies.{Tallies}
use Rattle.kappa_alpha.specs.declared.weight.Weights.{Weights}
use Rattle.label_tracks.specs.Grid.{cell_of}
use Rattle.kappa_alpha.proofs.Worth.{worth_le}
use Rattle.kappa_alpha.proofs.PairPlaces.{place_in}
use Rattle.kappa_alpha.proofs.Toward.{ordered_set, toward_none_of, toward_cons, none_toward, raters_put}
use Rattle.kappa_alpha.proofs.Shares.{none_worth, shares_none_of, shares_zero, pair_joined}

-- where a pair counts nothing, nothing is added
pub worth_zero : (c k : ℕ) (x y : Option ℕ) → worth 0 c k x y ≡ 0
worth_zero c k x y = omega (arith, worth_le 0 c k x y)

pub toward_zero : (c k : ℕ) (x : Option ℕ) (others : List (Option ℕ)) → toward 0 c k x others ≡ 0
toward_zero c k x [] = toward_none_of 0 c k x
toward_zero c k x (y ∷ others) = omega (arith, toward_cons 0 c k x y others, worth_zero c k x y, worth_zero c k y x, toward_zero c k x others)

pub tally_none : (n c : ℕ) → tally n c [] ≡ 0
unfolding tally
tally_none n c = refl

pub tally_more : (n c : ℕ) (column : List (Option ℕ)) (i : ℕ) (d : Option ℕ) → i < length column → tally n c (take (i + 1) column) ≡ tally n c (take i column) + worth n c c (get_or column i d) (get_or column i d)
unfolding tally
tally_more n c column i d h = sum_by_more (λ label. worth n c c label label) column i d h

pub tally_more_le : (n c : ℕ) (column : List (Option ℕ)) (i : ℕ) (d : Option ℕ) → i < length column → tally n c (take i column) + worth n c c (get_or column i d) (get_or column i d) ≤ tally n c column
unfolding tally
tally_more_le n c column i d h = sum_by_more_le (λ label. worth n c c label label) column i d h

-- without a label nothing is added
pub beside_none : (u : Weights) (x : Count) (r : ℕ) (others : List (Option ℕ)) → adds_beside u x r None others ≡ 0
beside_none u (CoincidenceCount c k) r others = none_toward u.pair c k others
beside_none u (LabelCount c) r others = none_worth u.label c c None
beside_none u (ConfusionCount a b c k) r others = shares_none_of u.met r others (length others) a b c k
beside_none u UnitCount r others = refl

-- every count, once each table was shifted
pub label_shifted : (old new : Tallies) (n w r y : ℕ) (u v : Weights) (others : List (Option ℕ)) → length others ≡ n → old.raters ≡ n → new.raters ≡ n → new.units ≡ old.units → ((c k : ℕ) → c < w → k < w → cell_of new.coincidences c k + toward u.pair c k (Some y) others ≡ cell_of old.coincidences c k + toward v.pair c k (Some y) others) → ((a b : ℕ) → a < w → b < w → cell_of new.labels a b + worth u.label a b (Some y) (Some y) ≡ cell_of old.labels a b + worth v.label a b (Some y) (Some y)) → ((p q c k : ℕ) → p < q → q < n → c < w → k < w → pair_cell n new.pairs.items p q c k + shares u.met r (Some y) others n p q c k ≡ pair_cell n old.pairs.items p q c k + shares v.met r (Some y) others n p q c k) → (x : Count) → IsCount n w x → held new x + adds_beside u x r (Some y) others ≡ held old x + adds_beside v x r (Some y) others
label_shifted old new n w r y u v others e eo en eu hc hl hp (CoincidenceCount c k) h = hc c k h.0 h.1
label_shifted old new n w r y u v others e eo en eu hc hl hp (LabelCount c) h = hl c c h h
label_shifted old new n w r y u v others e eo en eu hc hl hp (ConfusionCount a b c k) h = rw (eo, en, e) (hp a b c k h.0 h.1 h.2 h.3)
label_shifted old new n w r y u v others e eo en eu hc hl hp UnitCount h = omega (arith, eu)

-- what an absent label counts
pub beside_absent : (x : Count) (r : ℕ) (label : Option ℕ) (others : List (Option ℕ)) → adds_beside (record { pair = 0; label = 0; met = 0 }) x r label others ≡ 0
beside_absent (CoincidenceCount c k) r label others = toward_zero c k label others
beside_absent (LabelCount c) r label others = worth_zero c c label label
beside_absent (ConfusionCount a b c k) r label others = shares_zero r label others (length others) a b c k
beside_absent UnitCount r label others = refl

-- every count, once the other labels count anew
pub reweighed : (old new : Tallies) (n w u v : ℕ) (others : List (Option ℕ)) → old.raters ≡ n → new.raters ≡ n → new.pairs.items ≡ old.pairs.items → new.units + unit_of u ≡ old.units + unit_of v → ((c k : ℕ) → c < w → k < w → cell_of new.coincidences c k + ordered u c k others ≡ cell_of old.coincidences c k + ordered v c k others) → ((c : ℕ) → c < w → cell_of new.labels c c + tally (unit_of u) c others ≡ cell_of old.labels c c + tally (unit_of v) c others) → (x : Count) → IsCount n w x → held new x + adds_at u x others ≡ held old x + adds_at v x others
reweighed old new n w u v others eo en ep eu hc hl (CoincidenceCount c k) h = hc c k h.0 h.1
reweighed old new n w u v others eo en ep eu hc hl (LabelCount c) h = hl c h
reweighed old new n w u v others eo en ep eu hc hl (ConfusionCount a b c k) h = rw (eo, en, ep) refl
reweighed old new n w u v others eo en ep eu hc hl UnitCount h = eu

tally_cons : (n c : ℕ) (x : Option ℕ) (column : List (Option ℕ)) → tally n c (x ∷ column) ≡ worth n c c x x + tally n c column
unfolding tally
tally_cons n c x column = sum_by-cons (λ label. worth n c c label label) x column

tally_zero : (c : ℕ) (column : List (Option ℕ)) → tally 0 c column ≡ 0
tally_zero c [] = tally_none 0 c
tally_zero c (x ∷ column) = omega (arith, tally_cons 0 c x column, worth_zero c c x x, tally_zero c column)

twice : (b : Bool) (m n : ℕ) → cond (b && b) m n ≡ cond b m n
twice true m n = refl
twice false m n = refl

is_worth : (c : ℕ) (x : Option ℕ) → worth 1 c c x x ≡ cond (is_label c x) 1 0
unfolding worth
is_worth c None = refl
is_worth c (Some x) = twice (c == x) 1 0

tally_one : (c : ℕ) (column : List (Option ℕ)) → tally 1 c column ≡ count_by (is_label c) column
tally_one c [] = tally_none 1 c
tally_one c (x ∷ column) = omega (arith, tally_cons 1 c x column, is_worth c x, tally_one c column, sum_by-cons (λ label. cond (is_label c label) 1 0) x column)

-- a token that two raters or more label has pairs that count
pub unit_weight : (m : ℕ) → m ≤ 16 → unit_of (weight m) ≡ (if nat_lt m 2 then 0 else 1)
unfolding unit_of weight
unit_weight m h =
    elim (cases_lt m 2) [
      | inl l ↦ rw (lt-ltb m 2 l) refl
      | inr l ↦
          let some : 1 ≤ 360360 / (m - 1) = le-div 1 360360 (m - 1) (omega arith) (omega arith) in
          rw (le-ltb m 2 l, ne_eqb (360360 / (m - 1)) 0 (λ e. omega (arith, e, some))) refl
    ]

unit_is : (column : List (Option ℕ)) → raters_in column ≤ 16 → unit_at column ≡ unit_of (weight (raters_in column))
unfolding unit_at
unit_is column few = sym (unit_weight (raters_in column) few)

pick_tally : (c : ℕ) (column : List (Option ℕ)) (b : Bool) → (if b then 0 else count_by (is_label c) column) ≡ tally (if b then 0 else 1) c column
pick_tally c column true = sym (tally_zero c column)
pick_tally c column false = sym (tally_one c column)

label_is : (c : ℕ) (column : List (Option ℕ)) → raters_in column ≤ 16 → label_at c column ≡ tally (unit_of (weight (raters_in column))) c column
unfolding label_at
label_is c column few = pick_tally c column (nat_lt (raters_in column) 2) ∙ ap (λ n. tally n c column) (sym (unit_weight (raters_in column) few))

one_most : (v : Option ℕ) → cond (is_some v) 1 0 ≤ 1
one_most None = omega arith
one_most (Some v) = omega arith

tally_set : (n c : ℕ) (others : List (Option ℕ)) (r : ℕ) (v : Option ℕ) → r < length others → get_or others r None ≡ None → tally n c (set others r v) ≡ tally n c others + worth n c c v v
unfolding tally
tally_set n c others r v h e =
    let z : worth n c c (get_or others r None) (get_or others r None) ≡ 0 = rw e (none_worth n c c None) in
    let s : sum_by (λ label. worth n c c label label) (set others r v) + worth n c c (get_or others r None) (get_or others r None) ≡ sum_by (λ label. worth n c c label label) others + worth n c c v v = sum_by-set (λ label. worth n c c label label) others r v None h in
    omega (arith, z, s)

few_put : (others : List (Option ℕ)) (r : ℕ) (v : Option ℕ) → r < length others → get_or others r None ≡ None → raters_in others < 16 → raters_in (set others r v) ≤ 16
few_put others r v l out few = omega (arith, raters_put others r v l out, one_most v)

-- what a column adds, from what the others add and the label
pub adds_set : (x : Count) (n w : ℕ) (others : List (Option ℕ)) (r m : ℕ) (v : Option ℕ) → IsCount n w x → length others ≡ n → r < n → get_or others r None ≡ None → raters_in others < 16 → m ≡ weight (raters_in others + cond (is_some v) 1 0) → adds x (set others r v) ≡ adds_at m x others + adds_beside (weights_at m) x r v others
unfolding coincidence_at
adds_set (CoincidenceCount c k) n w others r m v h e hr out few em =
    let l : r < length others = omega (arith, e, hr) in
    ap (λ t. ordered (weight t) c k (set others r v)) (raters_put others r v l out) ∙ ap (λ t. ordered t c k (set others r v)) (sym em) ∙ ordered_set m c k others r v l out
adds_set (LabelCount c) n w others r m v h e hr out few em =
    let l : r < length others = omega (arith, e, hr) in
    label_is c (set others r v) (few_put others r v l out few) ∙ ap (λ t. tally (unit_of (weight t)) c (set others r v)) (raters_put others r v l out) ∙ ap (λ t. tally (unit_of t) c (set others r v)) (sym em) ∙ tally_set (unit_of m) c others r v l out
adds_set (ConfusionCount a b c k) n w others r m v h e hr out few em =
    pair_joined r a b c k v others h.0 (omega (arith, e, h.1)) (omega (arith, e, hr)) out
adds_set UnitCount n w others r m v h e hr out few em =
    let l : r < length others = omega (arith, e, hr) in
    let u : unit_at (set others r v) ≡ unit_of m = unit_is (set others r v) (few_put others r v l out few) ∙ ap (λ t. unit_of (weight t)) (raters_put others r v l out) ∙ ap unit_of (sym em) in
    omega (arith, u)

-- a count of tables of equal size
pub is_count_of : (n m w v : ℕ) (x : Count) → n ≡ m → w ≡ v → IsCount n w x → IsCount m v x
is_count_of n m w v (CoincidenceCount c k) e f h = (omega (arith, f, h.0), omega (arith, f, h.1))
is_count_of n m w v (LabelCount c) e f h = omega (arith, f, h)
is_count_of n m w v (ConfusionCount a b c k) e f h = (h.0, omega (arith, e, h.1), omega (arith, f, h.2), omega (arith, f, h.3))
is_count_of n m w v UnitCount e f h = tt

-- the steps of a move, from those of its three parts
pub move_within : (s0 s1 s2 s3 p u v : ℕ) (x y : Option ℕ) → s1 ≡ s0 + cond (is_some x) (3 * p + 1) 0 → s2 ≤ s1 + p * p → (u ≡ v → s2 ≡ s1) → s3 ≡ s2 + cond (is_some y) (3 * p + 1) 0 → (is_some x ≡ is_some y → u ≡ v) → s3 ≤ s0 + move_steps p x y
unfolding move_steps
move_within s0 s1 s2 s3 p u v None None h1 h2 same h3 e = omega (arith, h1, h3, same (e refl))
move_within s0 s1 s2 s3 p u v None (Some y) h1 h2 same h3 e = omega (arith, h1, h2, h3)
move_within s0 s1 s2 s3 p u v (Some x) None h1 h2 same h3 e = omega (arith, h1, h2, h3)
move_within s0 s1 s2 s3 p u v (Some x) (Some y) h1 h2 same h3 e = omega (arith, h1, h3, same (e refl))

-- tallies of the shape of others of some shape
pub shaped_on : (n w : ℕ) (t u : Tallies) → IsShaped n w t → IsShaped t.raters t.coincidences.width u → IsShaped n w u
shaped_on n w t u s v = record {
  numbers = v.numbers ∙ s.numbers;
  coincidences = v.coincidences ∙ s.coincidences;
  labels = v.labels ∙ s.coincidences;
  pairs = rw (← s.numbers, ← s.coincidences) v.pairs;
}

-- tallies of zeros hold nothing
pub held_none : (t : Tallies) (n w : ℕ) → ((c k : ℕ) → cell_of t.coincidences c k ≡ 0) → ((c k : ℕ) → cell_of t.labels c k ≡ 0) → length t.pairs.items ≡ n * n → IsEmpty t.pairs.items → t.raters ≡ n → t.units ≡ 0 → (v : Count) → IsCount n w v → held t v ≡ 0
unfolding pair_cell
held_none t n w hc hl whole hp e u (CoincidenceCount c k) h = hc c k
held_none t n w hc hl whole hp e u (LabelCount c) h = hl c c
held_none t n w hc hl whole hp e u (ConfusionCount a b c k) h = rw e (hp (a * n + b) c k (place_in n a b t.pairs.items (omega (arith, h.0, h.1)) h.1 whole))
held_none t n w hc hl whole hp e u UnitCount h = u
