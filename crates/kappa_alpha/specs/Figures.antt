-- Kappa of two raters (Cohen 1960) and nominal alpha (Krippendorff), as fractions that are not reduced.
use Rattle.std.specs.Prelude.{ℕ, ◌-◌, ◌*◌, ◌==◌, ◌^◌, ℤ, pos, ◌-ℤ◌, ◌<ℤ◌, ◌≤ℤ◌, neg_ℤ, if◌then◌else◌, Option, Some, None}
use Rattle.kappa_alpha.specs.Standing.{Standing, sum_below, confusion_of, shared_of, coincidence_of, labels_of, units_of}
use Rattle.kappa_alpha.specs.declared.figures.Fraction.{Fraction}
use Rattle.kappa_alpha.specs.declared.figures.PairLine.{PairLine}
use Rattle.kappa_alpha.specs.declared.figures.AlphaLine.{AlphaLine}

-- a fraction, none where its bottom is 0
abbrev pub fraction : ℤ → ℕ → Option Fraction
fraction top bottom = if bottom == 0 then None else Some (record { top = top; bottom = pos bottom })

-- the sum of the diagonal of a table of n labels
unfoldable pub diagonal : (ℕ → ℕ → ℕ) → ℕ → ℕ
diagonal table n = sum_below (λ c. table c c) n

-- the marginal counts: the sum of row k, and of column k, of a table of n labels
unfoldable pub row_sum : (ℕ → ℕ → ℕ) → ℕ → ℕ → ℕ
row_sum table k n = sum_below (λ j. table k j) n

-- the same of column k
unfoldable pub column_sum : (ℕ → ℕ → ℕ) → ℕ → ℕ → ℕ
column_sum table k n = sum_below (λ j. table j k) n

-- the sum of all cells of the first n rows
unfoldable pub cells_sum : (ℕ → ℕ → ℕ) → ℕ → ℕ → ℕ
cells_sum table width n = sum_below (λ k. row_sum table k width) n

-- agreement by chance: the products of the marginal counts, over the first n labels
unfoldable pub chance : (ℕ → ℕ → ℕ) → ℕ → ℕ → ℕ
chance table width n = sum_below (λ k. row_sum table k width * column_sum table k width) n

-- Cohen's kappa (1960): of so many units, agreed ones have one label from both raters
abbrev pub kappa_from : ℕ → ℕ → ℕ → Option Fraction
kappa_from units agreed expected = fraction (pos (units * agreed) -ℤ pos expected) (units * units - expected)

-- kappa of two raters over the rows that stand
abbrev pub kappa_of : Standing → ℕ → ℕ → Option Fraction
kappa_of s a b =
    kappa_from (shared_of s.documents a b) (diagonal (confusion_of s.documents a b) s.categories)
    (chance (confusion_of s.documents a b) s.categories s.categories)

-- the line of two raters
abbrev pub pair_line : Standing → ℕ → ℕ → PairLine
pair_line s a b = record {
  first = a;
  second = b;
  units = shared_of s.documents a b;
  agreed = diagonal (confusion_of s.documents a b) s.categories;
  kappa = kappa_of s a b;
}

-- ordered pairs of equal labels, of the first n labels: the sum of n_c * (n_c - 1)
unfoldable pub same_pairs : (ℕ → ℕ) → ℕ → ℕ
same_pairs counts n = sum_below (λ c. counts c * (counts c - 1)) n

-- Krippendorff's alpha for nominal labels: agreed is the diagonal of the coincidences, 360360 times, and of the values same is their pairs of equal labels
abbrev pub alpha_from : ℕ → ℕ → ℕ → Option Fraction
alpha_from agreed values same =
    fraction (pos ((values - 1) * agreed) -ℤ pos (360360 * same)) (360360 * (values * (values - 1) - same))

-- alpha over the rows that stand
abbrev pub alpha_of : Standing → Option Fraction
alpha_of s =
    alpha_from (diagonal (coincidence_of s.documents) s.categories) (sum_below (labels_of s.documents) s.categories)
    (same_pairs (labels_of s.documents) s.categories)

-- the line of all raters
abbrev pub alpha_line : Standing → AlphaLine
alpha_line s = record {
  units = units_of s.documents;
  values = sum_below (labels_of s.documents) s.categories;
  alpha = alpha_of s;
}

-- a fraction that can be written with decimals: its bottom is positive, and neither number is past 2^100
abbrev pub Writable : Fraction → Type 0
Writable f = (pos 0 <ℤ f.bottom) × (f.bottom ≤ℤ pos (2 ^ 100)) × (f.top ≤ℤ pos (2 ^ 100)) × (neg_ℤ (pos (2 ^ 100)) ≤ℤ f.top)
