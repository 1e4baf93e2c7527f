-- The tables of agreement as CSV.
use Rattle.std.specs.Prelude.{ℕ, List, [], ◌∷◌, ◌++◌, codes, decimal, get_or, Option, Some, None, ◌≡◌, ◌<◌, false, IfSome}
use Rattle.std.specs.Fmt.{signed_decimal}
use Rattle.std.specs.List.{flat_map}
use Rattle.std.specs.Global.{Vec}
use Rattle.csv.specs.Writing.{default_writer, row_text, writer_setup, fields_written, has_written, writer_under, writer_pending}
use Rattle.csv.specs.declared.writer.Writer.{Writer}
use Rattle.kappa_alpha.specs.declared.figures.Fraction.{Fraction}
use Rattle.kappa_alpha.specs.declared.figures.PairLine.{PairLine}
use Rattle.kappa_alpha.specs.declared.figures.AlphaLine.{AlphaLine}
use Rattle.agreement_report.specs.declared.report.FigureTexts.{FigureTexts}
use Rattle.kappa_alpha.specs.Figures.{Writable}
use Rattle.agreement_report.specs.Decimals.{decimals_text}

-- the three fields of a figure: its two numbers and its decimals, or 0, 0 and `undefined`
abbrev pub figure_fields : Option Fraction → List (List ℕ)
figure_fields None = codes "0" ∷ codes "0" ∷ codes "undefined" ∷ []
figure_fields (Some f) = signed_decimal f.top ∷ signed_decimal f.bottom ∷ decimals_text f ∷ []

-- a record as CSV: commas between fields, quotes only where a field needs them, LF at the end
abbrev pub row : List (List ℕ) → List ℕ
row fields = row_text default_writer fields

-- the fields of two raters: their names, their tokens, and the figure
abbrev pub pair_fields : List (List ℕ) → PairLine → List (List ℕ)
pair_fields names line =
    get_or names line.first [] ∷ get_or names line.second [] ∷ decimal line.units ∷ decimal line.agreed ∷ figure_fields line.kappa

-- a line whose raters have names, and whose figure can be written
pub record IsShown (names : ℕ) (line : PairLine) : Type 0 where
  pub first_in : line.first < names
  pub second_in : line.second < names
  pub writable : IfSome line.kappa (λ f. Writable f)

-- the names of these fields
abbrev pub pairs_header : List (List ℕ)
pairs_header = codes "first" ∷ codes "second" ∷ codes "units" ∷ codes "agreed" ∷ codes "top" ∷ codes "bottom" ∷ codes "kappa" ∷ []

-- the table of each two raters
abbrev pub pairs_table : List (List ℕ) → List PairLine → List ℕ
pairs_table names lines = row pairs_header ++ flat_map (λ line. row (pair_fields names line)) lines

-- the names of the fields of all raters
abbrev pub alpha_header : List (List ℕ)
alpha_header = codes "units" ∷ codes "values" ∷ codes "top" ∷ codes "bottom" ∷ codes "alpha" ∷ []

-- the table of all raters
abbrev pub alpha_table : AlphaLine → List ℕ
alpha_table line = row alpha_header ++ row (decimal line.units ∷ decimal line.values ∷ figure_fields line.alpha)

-- the fields of a figure's texts
abbrev pub fields_of : FigureTexts → List (List ℕ)
fields_of texts = texts.top ∷ texts.bottom ∷ texts.decimals ∷ []

-- what a writer has written so far
abbrev pub text_of : Writer (Vec ℕ) → List ℕ
text_of writer = (writer_under writer).items ++ writer_pending writer

-- it writes as by default, and stands between two records
pub record IsReady (writer : Writer (Vec ℕ)) : Type 0 where
  pub setup : writer_setup writer ≡ default_writer
  pub fields : fields_written writer ≡ 0
  pub clean : has_written writer ≡ false
