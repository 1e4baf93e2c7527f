use Rattle.std.proofs.Common.{◌≡◌, ℕ, ◌+◌, ◌*◌, ◌<◌, ◌≤◌, ◌^◌, List, get_or, Option, arith, sym, ◌∙◌, ap}
use Rattle.label_tracks.specs.Grid.{Grid, cell_of}
use Rattle.kappa_alpha.specs.Pairs.{pair_cell}
use Rattle.kappa_alpha.specs.Standing.{Document, confusion_of, shared_of, coincidence_of, labels_of, sum_below}
use Rattle.kappa_alpha.specs.Figures.{cells_sum, chance, diagonal, same_pairs, kappa_from, pair_line, alpha_from, alpha_line}
use Rattle.kappa_alpha.specs.Counted.{AreTables, CoincidenceCount, LabelCount, ConfusionCount, UnitCount, adds}
use Rattle.kappa_alpha.specs.declared.figures.Fraction.{Fraction}
use Rattle.kappa_alpha.specs.declared.figures.PairLine.{PairLine}
use Rattle.kappa_alpha.specs.declared.figures.AlphaLine.{AlphaLine}
use Rattle.kappa_alpha.specs.declared.tallies.Tallies.{Tallies}
use Rattle.kappa_alpha.proofs.PairPlaces.{cell_read, width_read}
use Rattle.kappa_alpha.proofs.Shared.{diagonal_same, cells_same, chance_same, counts_same, same_pairs_same, cells_shared}
use Rattle.kappa_alpha.proofs.Totals.{over_all_le, adds_le, confusion_at_le, label_at_le}

-- What a reading gives, from the tables.

pub grid_width : (raters width : ℕ) (documents : List Document) (t : Tallies) (a b : ℕ) (g : Grid) → AreTables raters width documents t → a < b → b < raters → g ≡ get_or t.pairs.items (a * raters + b) g → g.width ≡ width
grid_width raters width documents t a b g tables h hb is = width_read t.pairs.items raters width a b g (omega arith) hb tables.shape.pairs is

pub grid_cell : (raters width : ℕ) (documents : List Document) (t : Tallies) (a b : ℕ) (g : Grid) (c k : ℕ) → AreTables raters width documents t → a < b → b < raters → g ≡ get_or t.pairs.items (a * raters + b) g → c < width → k < width → cell_of g c k ≡ confusion_of documents a b c k
grid_cell raters width documents t a b g c k tables h hb is hc hk =
    cell_read t.pairs.items raters width a b c k g (omega arith) hb tables.shape.pairs is
    ∙ ap (λ n. pair_cell n t.pairs.items a b c k) (sym tables.shape.numbers)
    ∙ tables.recount (ConfusionCount a b c k) (h, hb, hc, hk)

pub grid_small : (raters width : ℕ) (documents : List Document) (t : Tallies) (a b : ℕ) (g : Grid) (c k : ℕ) → AreTables raters width documents t → a < b → b < raters → g ≡ get_or t.pairs.items (a * raters + b) g → c < width → k < width → cell_of g c k ≤ 2 ^ 24
grid_small raters width documents t a b g c k tables h hb is hc hk =
    omega (
      arith,
      grid_cell raters width documents t a b g c k tables h hb is hc hk,
      over_all_le (adds (ConfusionCount a b c k)) 1 raters width documents (λ column l. confusion_at_le a b c k column) tables.fit,
      tables.tokens,
    )

line_same : (a b u v x y : ℕ) (k l : Option Fraction) → u ≡ v → x ≡ y → k ≡ l → (let r : PairLine = record { first = a; second = b; units = u; agreed = x; kappa = k } in r) ≡ (let r : PairLine = record { first = a; second = b; units = v; agreed = y; kappa = l } in r)
line_same a b u v x y k l eu ex ek = cc

kappa_same : (n m a b s t : ℕ) → n ≡ m → a ≡ b → s ≡ t → kappa_from n a s ≡ kappa_from m b t
kappa_same n m a b s t en ea es = ap (λ v. kappa_from v a s) en ∙ ap (λ v. kappa_from m v s) ea ∙ ap (λ v. kappa_from m b v) es

alpha_same : (a b n m s t : ℕ) → a ≡ b → n ≡ m → s ≡ t → alpha_from a n s ≡ alpha_from b m t
alpha_same a b n m s t ea en es = ap (λ v. alpha_from v n s) ea ∙ ap (λ v. alpha_from b v s) en ∙ ap (λ v. alpha_from b m v) es

pub units_read : (raters width : ℕ) (documents : List Document) (t : Tallies) (a b : ℕ) (g : Grid) (u : ℕ) → AreTables raters width documents t → a < b → b < raters → g ≡ get_or t.pairs.items (a * raters + b) g → u ≡ cells_sum (cell_of g) g.width g.width → u ≡ cells_sum (confusion_of documents a b) width width
units_read raters width documents t a b g u tables h hb is e =
    e ∙ ap (λ w. cells_sum (cell_of g) w w) (grid_width raters width documents t a b g tables h hb is)
    ∙ cells_same (cell_of g) (confusion_of documents a b) width (λ c k hc hk. grid_cell raters width documents t a b g c k tables h hb is hc hk)

pub pair_read : (raters width spare : ℕ) (documents : List Document) (t : Tallies) (a b : ℕ) (g : Grid) (u x e : ℕ) (k : Option Fraction) → AreTables raters width documents t → a < b → b < raters → g ≡ get_or t.pairs.items (a * raters + b) g → u ≡ cells_sum (cell_of g) g.width g.width → x ≡ diagonal (cell_of g) g.width → e ≡ chance (cell_of g) g.width g.width → k ≡ kappa_from u x e → (let r : PairLine = record { first = a; second = b; units = u; agreed = x; kappa = k } in r) ≡ pair_line (record { raters = raters; categories = width; documents = documents; spare = spare }) a b
pair_read raters width spare documents t a b g u x e k tables h hb is eu ex ee ek =
    let w : g.width ≡ width = grid_width raters width documents t a b g tables h hb is in
    let cell : (c k : ℕ) → c < width → k < width → cell_of g c k ≡ confusion_of documents a b c k = λ c k hc hk. grid_cell raters width documents t a b g c k tables h hb is hc hk in
    let fu : u ≡ shared_of documents a b = units_read raters width documents t a b g u tables h hb is eu ∙ cells_shared a b width raters documents tables.fit (omega arith) hb in
    let fx : x ≡ diagonal (confusion_of documents a b) width = ex ∙ ap (diagonal (cell_of g)) w ∙ diagonal_same (cell_of g) (confusion_of documents a b) width cell in
    let fe : e ≡ chance (confusion_of documents a b) width width = ee ∙ ap (λ w. chance (cell_of g) w w) w ∙ chance_same (cell_of g) (confusion_of documents a b) width cell in
    line_same a b _ _ _ _ _ _ fu fx (ek ∙ kappa_same _ _ _ _ _ _ fu fx fe)

pub coincidence_small : (raters width : ℕ) (documents : List Document) (t : Tallies) (c : ℕ) → AreTables raters width documents t → c < width → cell_of t.coincidences c c ≤ 2 ^ 52
coincidence_small raters width documents t c tables h =
    omega (arith, tables.recount (CoincidenceCount c c) (h, h), over_all_le (adds (CoincidenceCount c c)) (2 ^ 28) raters width documents (adds_le (CoincidenceCount c c)) tables.fit, tables.tokens)

pub label_small : (raters width : ℕ) (documents : List Document) (t : Tallies) (c : ℕ) → AreTables raters width documents t → c < width → cell_of t.labels c c ≤ 2 ^ 28
label_small raters width documents t c tables h =
    omega (arith, tables.recount (LabelCount c) h, over_all_le (adds (LabelCount c)) 16 raters width documents (label_at_le c) tables.fit, tables.tokens)

all_same_line : (u v x y : ℕ) (k l : Option Fraction) → u ≡ v → x ≡ y → k ≡ l → (let r : AlphaLine = record { units = u; values = x; alpha = k } in r) ≡ (let r : AlphaLine = record { units = v; values = y; alpha = l } in r)
all_same_line u v x y k l eu ex ek = cc

pub alpha_read : (raters width spare : ℕ) (documents : List Document) (t : Tallies) (x v s : ℕ) (k : Option Fraction) → AreTables raters width documents t → x ≡ diagonal (cell_of t.coincidences) t.coincidences.width → v ≡ diagonal (cell_of t.labels) t.coincidences.width → s ≡ same_pairs (λ c. cell_of t.labels c c) t.coincidences.width → k ≡ alpha_from x v s → (let r : AlphaLine = record { units = t.units; values = v; alpha = k } in r) ≡ alpha_line (record { raters = raters; categories = width; documents = documents; spare = spare })
alpha_read raters width spare documents t x v s k tables ex ev es ek =
    let w : t.coincidences.width ≡ width = tables.shape.coincidences in
    let count : (c : ℕ) → c < width → cell_of t.labels c c ≡ labels_of documents c = λ c h. tables.recount (LabelCount c) h in
    let fx : x ≡ diagonal (coincidence_of documents) width = ex ∙ ap (diagonal (cell_of t.coincidences)) w ∙ diagonal_same (cell_of t.coincidences) (coincidence_of documents) width (λ c k hc hk. tables.recount (CoincidenceCount c k) (hc, hk)) in
    let fv : v ≡ sum_below (labels_of documents) width = ev ∙ ap (diagonal (cell_of t.labels)) w ∙ counts_same (cell_of t.labels) (labels_of documents) width count in
    let fs : s ≡ same_pairs (labels_of documents) width = es ∙ ap (same_pairs (λ c. cell_of t.labels c c)) w ∙ same_pairs_same (λ c. cell_of t.labels c c) (labels_of documents) width count in
    all_same_line _ _ _ _ _ _ (tables.recount UnitCount tt) fv (ek ∙ alpha_same _ _ _ _ _ _ fx fv fs)
