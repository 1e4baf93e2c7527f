-- The running counts, and that they are those of a recount (private calls only).
use Rattle.std.specs.Prelude.{◌≡◌, ℕ, ◌+◌, ◌<◌, ◌≤◌, ◌==◌, ◌^◌, List, get_or, length, replicate, slice_index, if◌then◌else◌, sum_by, Option, None, IfSome, ⊤}
use Rattle.label_tracks.specs.Grid.{cell_of}
use Rattle.kappa_alpha.specs.Columns.{Column, worth, ordered, toward, coincidence_at, confusion_at, label_at, unit_at}
use Rattle.kappa_alpha.specs.Standing.{Rows, Document, document_at, tokens_in, over_all}
use Rattle.kappa_alpha.specs.Pairs.{PairsFit, pair_cell, shares}
use Rattle.kappa_alpha.specs.declared.tallies.Tallies.{Tallies}
use Rattle.kappa_alpha.specs.declared.weight.Weights.{Weights}

-- One count of the running tables.
pub data Count : Type 0 where
  CoincidenceCount : (c k : ℕ) → Count
  LabelCount : (c : ℕ) → Count
  ConfusionCount : (a b c k : ℕ) → Count
  UnitCount : Count

-- it is one of the tables of so many raters and categories
abbrev pub IsCount : ℕ → ℕ → Count → Type 0
IsCount raters width (CoincidenceCount c k) = (c < width) × (k < width)
IsCount raters width (LabelCount c) = c < width
IsCount raters width (ConfusionCount a b c k) = (a < b) × (b < raters) × (c < width) × (k < width)
IsCount raters width UnitCount = ⊤

-- what a token's column adds to it
abbrev pub adds : Count → Column → ℕ
adds (CoincidenceCount c k) = coincidence_at c k
adds (LabelCount c) = label_at c
adds (ConfusionCount a b c k) = confusion_at a b c k
adds UnitCount = unit_at

-- what the tallies hold of it
abbrev pub held : Tallies → Count → ℕ
held t (CoincidenceCount c k) = cell_of t.coincidences c k
held t (LabelCount c) = cell_of t.labels c c
held t (ConfusionCount a b c k) = pair_cell t.raters t.pairs.items a b c k
held t UnitCount = t.units

-- every grid has the same width, and each two raters have one
pub record IsShaped (raters width : ℕ) (t : Tallies) : Type 0 where
  pub numbers : t.raters ≡ raters
  pub coincidences : t.coincidences.width ≡ width
  pub labels : t.labels.width ≡ width
  pub pairs : PairsFit raters width t.pairs.items

-- the tallies have a grid of their own width for each two of their raters
abbrev pub IsWhole : Tallies → Type 0
IsWhole t = IsShaped t.raters t.coincidences.width t

-- the same raters, grids and widths
abbrev pub SameShape : Tallies → Tallies → Type 0
SameShape old new = IsShaped old.raters old.coincidences.width new

-- it is a count of these tallies
abbrev pub IsIn : Tallies → Count → Type 0
IsIn t x = IsCount t.raters t.coincidences.width x

-- how often a label counts where a pair counts w: 0 stands for fewer than two raters
unfoldable pub unit_of : ℕ → ℕ
unit_of w = if w == 0 then 0 else 1

-- the labels c of a column, where each counts n
unfoldable pub tally : ℕ → ℕ → Column → ℕ
tally n c column = sum_by (λ label. worth n c c label label) column

-- what a column adds where a pair of its raters counts w
abbrev pub adds_at : ℕ → Count → Column → ℕ
adds_at w (CoincidenceCount c k) column = ordered w c k column
adds_at w (LabelCount c) column = tally (unit_of w) c column
adds_at w (ConfusionCount a b c k) column = confusion_at a b c k column
adds_at w UnitCount column = unit_of w

-- what the label of a rater counts in a token whose pairs count w
abbrev pub weights_at : ℕ → Weights
weights_at w = record { pair = w; label = unit_of w; met = 1 }

-- what one label more adds, that of rater r
abbrev pub adds_beside : Weights → Count → ℕ → Option ℕ → Column → ℕ
adds_beside w (CoincidenceCount c k) r label others = toward w.pair c k label others
adds_beside w (LabelCount c) r label others = worth w.label c c label label
adds_beside w (ConfusionCount a b c k) r label others = shares w.met r label others (length others) a b c k
adds_beside w UnitCount r label others = 0

-- the rows of a document: each has the document's tokens, and its labels are below the width
pub record RowsFit (rows : Rows) (tokens width : ℕ) : Type 0 where
  pub long : (k : ℕ) → k < length rows → IfSome (get_or rows k None) (λ row. length row ≡ tokens)
  pub labels : (k i : ℕ) → k < length rows → i < tokens → IfSome (get_or rows k None) (λ row. slice_index row i < width)
  pub few : length rows ≤ 16

-- a row has so many labels, each below the width
pub record RowFits (row : Option (List ℕ)) (tokens width : ℕ) : Type 0 where
  pub long : IfSome row (λ labels. length labels ≡ tokens)
  pub labels : (i : ℕ) → i < tokens → IfSome row (λ labels. slice_index labels i < width)

-- the rows of a document fit its tokens, one place for each rater
pub record DocumentFits (document : Document) (raters width : ℕ) : Type 0 where
  pub rows : RowsFit document.rows document.tokens width
  pub whole : length document.rows ≡ raters

-- the running tables are those of a recount of all documents
pub record AreTables (raters width : ℕ) (documents : List Document) (t : Tallies) : Type 0 where
  pub fit : (d : ℕ) → d < length documents → DocumentFits (document_at documents d) raters width
  pub tokens : tokens_in documents ≤ 8390656
  pub raters_few : raters ≤ 16
  pub width_some : 1 ≤ width
  pub width_few : width ≤ 64
  pub shape : IsShaped raters width t
  pub recount : (x : Count) → IsCount raters width x → held t x ≡ over_all (adds x) documents

-- documents are ready for which the list has room: no rater has a row on one
pub record IsPool (raters taken room : ℕ) (ready : List Document) : Type 0 where
  pub room_left : taken + length ready ≤ room
  pub few : length ready < 2 ^ 32
  pub blank_rows : (i : ℕ) → i < length ready → (document_at ready i).rows ≡ replicate raters None
