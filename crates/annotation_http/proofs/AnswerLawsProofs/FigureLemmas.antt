-- Figures of rows that fit can be written: their counts are small enough.
use Rattle.std.proofs.Common.{◌≡◌, ℕ, zero, suc, ◌+◌, ◌-◌, ◌*◌, ◌<◌, ◌≤◌, ◌==◌, ◌^◌, ◌&&◌, Bool, true, false, length, get_or, Some, None, IfSome, arith, refl}
use Rattle.std.specs.Prelude.{ℤ, pos, ◌-ℤ◌, ◌≤ℤ◌, neg_ℤ, if◌then◌else◌, is_some}
use Rattle.std.proofs.lemmas.Int.{ints}
use Rattle.std.proofs.lemmas.Nat.{mul-le}
use Rattle.kappa_alpha.specs.Columns.{Column, shared_at}
use Rattle.kappa_alpha.specs.Counted.{DocumentFits}
use Rattle.kappa_alpha.specs.Figures.{Writable, alpha_from, alpha_of, cells_sum, chance, diagonal, fraction, kappa_from, kappa_of, same_pairs}
use Rattle.kappa_alpha.specs.Standing.{Standing, coincidence_of, confusion_of, document_at, labels_of, shared_of, sum_below, tokens_in}
use Rattle.kappa_alpha.specs.declared.figures.Fraction.{Fraction}
use Rattle.kappa_alpha.proofs.Marginals.{chance_within}
use Rattle.kappa_alpha.proofs.Shared.{cells_shared}
use Rattle.kappa_alpha.proofs.Squares.{pairs_within}
use Rattle.kappa_alpha.proofs.Totals.{coincidence_at_le, confusion_at_le, label_at_le, over_all_le}

-- rows that fit, of few labels and few tokens
pub record IsFitting (t : Standing) : Type 0 where
  pub documents : (d : ℕ) → d < length t.documents → DocumentFits (document_at t.documents d) t.raters t.categories
  pub tokens : tokens_in t.documents ≤ 2 ^ 24
  pub narrow : t.categories ≤ 64

-- ---- fractions

some_of : (n : ℕ) → (n == 0) ≡ false → 0 < n
some_of n e = grind (arith, e)

chosen : (none : Bool) (top : ℤ) (bottom : ℕ) → (none ≡ false → 0 < bottom) → bottom ≤ 2 ^ 100 → top ≤ℤ pos (2 ^ 100) → neg_ℤ (pos (2 ^ 100)) ≤ℤ top
    → IfSome (if none then None else Some (let f : Fraction = record { top = top; bottom = pos bottom } in f)) (λ f. Writable f)
chosen true top bottom some small high low = tt
chosen false top bottom some small high low = (let positive : 0 < bottom = some refl in omega (arith, ints), omega (arith, ints), high, low)

fraction_written : (top : ℤ) (bottom : ℕ) → bottom ≤ 2 ^ 100 → top ≤ℤ pos (2 ^ 100) → neg_ℤ (pos (2 ^ 100)) ≤ℤ top → IfSome (fraction top bottom) (λ f. Writable f)
fraction_written top bottom small high low = chosen (bottom == 0) top bottom (some_of bottom) small high low

kappa_written : (units agreed expected : ℕ) → units ≤ 2 ^ 24 → agreed ≤ 2 ^ 30 → expected ≤ units * units → IfSome (kappa_from units agreed expected) (λ f. Writable f)
kappa_written units agreed expected few most within =
    let square : units * units ≤ 2 ^ 24 * 2 ^ 24 = mul-le units units (2 ^ 24) (2 ^ 24) few few in
    let product : units * agreed ≤ 2 ^ 24 * 2 ^ 30 = mul-le units agreed (2 ^ 24) (2 ^ 30) few most in
    fraction_written (pos (units * agreed) -ℤ pos expected) (units * units - expected) (omega arith) (omega (arith, ints)) (omega (arith, ints))

alpha_written : (agreed values same : ℕ) → agreed ≤ 2 ^ 58 → values ≤ 2 ^ 34 → same ≤ values * (values - 1) → IfSome (alpha_from agreed values same) (λ f. Writable f)
alpha_written agreed values same most few within =
    let square : values * (values - 1) ≤ 2 ^ 34 * 2 ^ 34 = mul-le values (values - 1) (2 ^ 34) (2 ^ 34) few (omega arith) in
    let product : (values - 1) * agreed ≤ 2 ^ 34 * 2 ^ 58 = mul-le (values - 1) agreed (2 ^ 34) (2 ^ 58) (omega arith) most in
    fraction_written (pos ((values - 1) * agreed) -ℤ pos (360360 * same)) (360360 * (values * (values - 1) - same)) (omega arith) (omega (arith, ints)) (omega (arith, ints))

-- ---- sums

times_more : (n most : ℕ) → suc n * most ≡ n * most + most
times_more n most = grind arith

sum_most : (f : ℕ → ℕ) (most n : ℕ) → ((i : ℕ) → i < n → f i ≤ most) → sum_below f n ≤ n * most
unfolding sum_below
sum_most f most zero each = omega arith
sum_most f most (suc n) each = omega (arith, sum_most f most n (λ i l. each i (omega arith)), each n (omega arith), times_more n most)

pairs_among : (counts : ℕ → ℕ) (n : ℕ) → same_pairs counts n ≤ sum_below counts n * (sum_below counts n - 1)
unfolding same_pairs sum_below
pairs_among counts zero = omega arith
pairs_among counts (suc n) = omega (arith, pairs_among counts n, pairs_within (sum_below counts n) (counts n))

sum_small : (f : ℕ → ℕ) (most n : ℕ) → n ≤ 64 → ((i : ℕ) → i < n → f i ≤ most) → sum_below f n ≤ 64 * most
sum_small f most n few each =
    let sum : sum_below f n ≤ n * most = sum_most f most n each in
    let all : n * most ≤ 64 * most = mul-le n most 64 most few (omega arith) in
    omega arith

-- ---- counts of rows that fit

one_or_none : (both : Bool) → (if both then 1 else 0) ≤ 1
one_or_none true = omega arith
one_or_none false = omega arith

shared_at_le : (a b : ℕ) (column : Column) → shared_at a b column ≤ 1
unfolding shared_at
shared_at_le a b column = one_or_none (is_some (get_or column a None) && is_some (get_or column b None))

shared_few : (t : Standing) (a b : ℕ) → IsFitting t → shared_of t.documents a b ≤ 2 ^ 24
shared_few t a b fit =
    let all : shared_of t.documents a b ≤ tokens_in t.documents * 1 = over_all_le (shared_at a b) 1 t.raters t.categories t.documents (λ column few. shared_at_le a b column) fit.documents in
    let tokens : tokens_in t.documents ≤ 2 ^ 24 = fit.tokens in
    omega arith

confusion_few : (t : Standing) (a b c k : ℕ) → IsFitting t → confusion_of t.documents a b c k ≤ 2 ^ 24
confusion_few t a b c k fit =
    let all : confusion_of t.documents a b c k ≤ tokens_in t.documents * 1 = over_all_le _ 1 t.raters t.categories t.documents (λ column few. confusion_at_le a b c k column) fit.documents in
    let tokens : tokens_in t.documents ≤ 2 ^ 24 = fit.tokens in
    omega arith

coincidence_few : (t : Standing) (c k : ℕ) → IsFitting t → coincidence_of t.documents c k ≤ 2 ^ 52
coincidence_few t c k fit =
    let all : coincidence_of t.documents c k ≤ tokens_in t.documents * 2 ^ 28 = over_all_le _ (2 ^ 28) t.raters t.categories t.documents (coincidence_at_le c k) fit.documents in
    let tokens : tokens_in t.documents ≤ 2 ^ 24 = fit.tokens in
    omega arith

labels_few : (t : Standing) (c : ℕ) → IsFitting t → labels_of t.documents c ≤ 2 ^ 28
labels_few t c fit =
    let all : labels_of t.documents c ≤ tokens_in t.documents * 16 = over_all_le _ 16 t.raters t.categories t.documents (label_at_le c) fit.documents in
    let tokens : tokens_in t.documents ≤ 2 ^ 24 = fit.tokens in
    omega arith

diagonal_small : (f : ℕ → ℕ → ℕ) (most n : ℕ) → n ≤ 64 → ((c : ℕ) → f c c ≤ most) → diagonal f n ≤ 64 * most
unfolding diagonal
diagonal_small f most n few each = sum_small (λ c. f c c) most n few (λ c l. each c)

-- ---- the figures

pub kappa_can : (t : Standing) (a b : ℕ) → IsFitting t → a < t.raters → b < t.raters → IfSome (kappa_of t a b) (λ f. Writable f)
kappa_can t a b fit a_in b_in =
    let cells : cells_sum (confusion_of t.documents a b) t.categories t.categories ≡ shared_of t.documents a b = cells_shared a b t.categories t.raters t.documents fit.documents a_in b_in in
    let within : chance (confusion_of t.documents a b) t.categories t.categories ≤ shared_of t.documents a b * shared_of t.documents a b =
    rw cells at (chance_within (confusion_of t.documents a b) t.categories) in
    let agreed : diagonal (confusion_of t.documents a b) t.categories ≤ 64 * 2 ^ 24 = diagonal_small (confusion_of t.documents a b) (2 ^ 24) t.categories fit.narrow (λ c. confusion_few t a b c c fit) in
    kappa_written (shared_of t.documents a b) (diagonal (confusion_of t.documents a b) t.categories) (chance (confusion_of t.documents a b) t.categories t.categories)
    (shared_few t a b fit) (omega arith) within

pub alpha_can : (t : Standing) → IsFitting t → IfSome (alpha_of t) (λ f. Writable f)
alpha_can t fit =
    let agreed : diagonal (coincidence_of t.documents) t.categories ≤ 64 * 2 ^ 52 = diagonal_small (coincidence_of t.documents) (2 ^ 52) t.categories fit.narrow (λ c. coincidence_few t c c fit) in
    let values : sum_below (labels_of t.documents) t.categories ≤ 64 * 2 ^ 28 = sum_small (labels_of t.documents) (2 ^ 28) t.categories fit.narrow (λ c l. labels_few t c fit) in
    alpha_written (diagonal (coincidence_of t.documents) t.categories) (sum_below (labels_of t.documents) t.categories) (same_pairs (labels_of t.documents) t.categories)
    (omega arith) (omega arith) (pairs_among (labels_of t.documents) t.categories)
