-- The layers that stand, and the scores of two annotators over them, counted anew.
use Rattle.std.specs.Prelude.{ℕ, ◌+◌, ◌*◌, List, [], ◌∷◌, ◌++◌, get_or, set, replicate, sum_by, Option, None, pos, refl}
use Rattle.std.specs.Coded.{Coded, code_by, coded×, coded_ℕ, coded_list, coded_option}
use Rattle.layer_model.specs.Annotations.{Annotations, annotations_code}
use Rattle.kappa_alpha.specs.declared.figures.Fraction.{Fraction}
use Rattle.kappa_alpha.specs.Figures.{fraction}
use Rattle.match_scores.specs.declared.sort.Sort.{Sort}
use Rattle.match_scores.specs.declared.line.ScoreLine.{ScoreLine}
use Rattle.match_scores.specs.Matches.{Part, Both, FirstOnly, SecondOnly, matched}

-- the layers that stand on one document, by annotator: None of one who has none
abbrev pub Layers : Type 0
Layers = List (Option Annotations)

-- the annotators, and the layers that stand on each document
pub record Standing : Type 0 where
  pub raters : ℕ
  pub documents : List Layers

-- a standing is stored as the pair of its fields
abbrev pub standing_code : Coded Standing
standing_code =
    code_by (ℕ × List Layers) (coded× coded_ℕ (coded_list (coded_list (coded_option annotations_code)))) (λ s. (s.raters, s.documents)) (λ p. record { raters = p.0; documents = p.1 }) (λ _. refl)

-- the layer of an annotator on a document
abbrev pub layer_of : Layers → ℕ → Option Annotations
layer_of layers rater = get_or layers rater None

-- the layers on document number d, from 0
abbrev pub document_at : List Layers → ℕ → Layers
document_at documents d = get_or documents d []

-- the layer of an annotator on document number d
abbrev pub layer_at : Standing → ℕ → ℕ → Option Annotations
layer_at s d rater = layer_of (document_at s.documents d) rater

-- the same layers, with this one of an annotator on a document, or none, in the place of the one that stood
abbrev pub posted : Standing → ℕ → ℕ → Option Annotations → Standing
posted s d rater layer = record s { documents = set s.documents d (set (document_at s.documents d) rater layer) }

-- one document more, on which no layer stands
abbrev pub admitted : Standing → Standing
admitted s = record s { documents = s.documents ++ replicate s.raters None ∷ [] }

-- the count of two annotators over all documents: those on which one of them has no layer add nothing
unfoldable pub total_of : List Layers → ℕ → ℕ → Sort → Part → ℕ
total_of documents a b sort part = sum_by (λ layers. matched sort part (layer_of layers a) (layer_of layers b)) documents

-- the score, 2*both of 2*both and what each has alone (the F1 score of exact match); none where that is nothing
abbrev pub score_of : ℕ → ℕ → ℕ → Option Fraction
score_of both first_only second_only = fraction (pos (2 * both)) (2 * both + first_only + second_only)

-- a line with its score
abbrev pub line_with : ℕ → ℕ → ℕ → ScoreLine
line_with both first_only second_only = record { both = both; first_only = first_only; second_only = second_only; score = score_of both first_only second_only }

-- the line of two annotators and a sort
abbrev pub line_of : Standing → ℕ → ℕ → Sort → ScoreLine
line_of s a b sort = line_with (total_of s.documents a b sort Both) (total_of s.documents a b sort FirstOnly) (total_of s.documents a b sort SecondOnly)
