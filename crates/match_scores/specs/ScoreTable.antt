-- The scores of each two annotators as CSV.
use Rattle.std.specs.Prelude.{ℕ, ◌+◌, ◌-◌, List, [], ◌∷◌, ◌++◌, codes, decimal, get_or}
use Rattle.std.specs.List.{flat_map, range_with_len}
use Rattle.agreement_report.specs.Report.{figure_fields, row}
use Rattle.match_scores.specs.declared.line.ScoreLine.{ScoreLine}
use Rattle.match_scores.specs.declared.sort.Sort.{Sort}
use Rattle.match_scores.specs.declared.sort.Sort.TheVariants.{Spans, Events, Relations}
use Rattle.match_scores.specs.declared.table.ScoreTexts.{ScoreTexts}
use Rattle.match_scores.specs.Standing.{Standing, line_of}

-- a sort by its name
abbrev pub sort_name : Sort → List ℕ
sort_name Spans = codes "spans"
sort_name Events = codes "events"
sort_name Relations = codes "relations"

-- the fields of a line: its three counts, and its score as two numbers and decimals, or 0, 0 and `undefined`
abbrev pub line_fields : ScoreLine → List (List ℕ)
line_fields line = decimal line.both ∷ decimal line.first_only ∷ decimal line.second_only ∷ figure_fields line.score

-- the fields of two annotators and a sort: their names, the sort, and the line
abbrev pub score_fields : (names : List (List ℕ)) → Standing → (a b : ℕ) → Sort → List (List ℕ)
score_fields names s a b sort = get_or names a [] ∷ get_or names b [] ∷ sort_name sort ∷ line_fields (line_of s a b sort)

-- the rows of two annotators, one a sort
abbrev pub rows_of_two : (names : List (List ℕ)) → Standing → (a b : ℕ) → List ℕ
rows_of_two names s a b = row (score_fields names s a b Spans) ++ (row (score_fields names s a b Events) ++ row (score_fields names s a b Relations))

-- the rows of an annotator with each later one
abbrev pub rows_of_one : (names : List (List ℕ)) → Standing → (a : ℕ) → List ℕ
rows_of_one names s a = flat_map (rows_of_two names s a) (range_with_len (a + 1) (s.raters - a - 1))

-- the names of the fields
abbrev pub scores_header : List (List ℕ)
scores_header =
    codes "first" ∷ codes "second" ∷ codes "sort" ∷ codes "both" ∷ codes "first_only" ∷ codes "second_only" ∷ codes "top" ∷ codes "bottom" ∷ codes "score" ∷ []

-- the table of the scores of each two annotators, by these names, in their order
abbrev pub scores_table : (names : List (List ℕ)) → Standing → List ℕ
scores_table names s = row scores_header ++ flat_map (rows_of_one names s) (range_with_len 0 s.raters)

-- the fields of a score's texts
abbrev pub fields_of : ScoreTexts → List (List ℕ)
fields_of texts = texts.top ∷ texts.bottom ∷ texts.decimals ∷ []
