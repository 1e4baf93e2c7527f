-- What lines that are read without a fault say.
use Rattle.std.proofs.Common.{◌≡◌, ℕ, ◌+◌, not, true, false, cond, List, [], ◌∷◌, ◌++◌, map, Option, Some, None, Result, Ok, Err, refl, ◌∙◌, ap}
use Rattle.std.specs.Prelude.{⊤}
use Rattle.std.specs.List.{filter, AllByRecursion}
use Rattle.std.proofs.lemmas.Bool.{cond-true, cond-false}
use Rattle.mark_base.specs.declared.fragments.Frag.{Frag}
use Rattle.conf_model.specs.Configurations.{Configuration}
use Rattle.token_columns.specs.declared.column_fault.ColumnFault.{ColumnFault}
use Rattle.token_columns.specs.declared.label.Label.{Label}
use Rattle.token_columns.specs.declared.label.Label.TheVariants as label
use Rattle.token_columns.specs.declared.line.Judged.{Judged}
use Rattle.token_columns.specs.declared.line.Judged.TheVariants.{Fault, Read}
use Rattle.token_columns.specs.declared.run.Run.{Run}
use Rattle.token_columns.specs.Columns.{labelled_line, column_line}
use Rattle.token_columns.specs.Labels.{label_of}
use Rattle.token_columns.specs.ReadColumns.{Tag, opened, last_of, begun, is_blank, judged, judged_then, with_tag, read_from}
use Rattle.token_columns.specs.ReadRuns.{closed, closed_by, runs_from}
use Rattle.token_columns.proofs.RunLemmas.{AllFollow, tokens_in}
use Rattle.token_columns.proofs.JudgedLemmas.{RunStands, LastStands, Good, IsLabelled, good_judged}
use Rattle.token_columns.proofs.ReadLemmas.{no_token}

-- the line of a token with its label
abbrev pub tag_line : Configuration → List ℕ → Tag → List ℕ
tag_line conf text tag = labelled_line conf text tag.token tag.label

abbrev pub shown_in : List (List ℕ) → List (List ℕ)
shown_in lines = filter (λ line. not (is_blank line)) lines

-- tokens with the labels that lines give them, behind a span that may be open
pub record IsRead (conf : Configuration) (text : List ℕ) (last : Option Run) (tokens : List Frag) (lines : List (List ℕ)) (tags : List Tag) : Type 0 where
  pub tokens_are : tokens_in tags ≡ tokens
  pub shown : shown_in lines ≡ map (tag_line conf text) tags
  pub follows : AllFollow last tags
  pub stands : LastStands conf last → AllByRecursion (RunStands conf) (runs_from last tags)

abbrev pub Facts : Configuration → List ℕ → Option Run → List Frag → List (List ℕ) → Result (List Tag) ColumnFault → Type 0
Facts conf text last tokens lines (Ok tags) = IsRead conf text last tokens lines tags
Facts conf text last tokens lines (Err fault) = ⊤

closed_stand : (conf : Configuration) (last : Option Run) → LastStands conf last → AllByRecursion (RunStands conf) (closed last)
closed_stand conf None h = tt
closed_stand conf (Some run) h = (h, tt)

closed_by_stand : (conf : Configuration) (last : Option Run) (label_ : Label) (runs : List Run) → LastStands conf last → AllByRecursion (RunStands conf) runs → AllByRecursion (RunStands conf) (closed_by last label_ ++ runs)
closed_by_stand conf None label.Out runs h all = all
closed_by_stand conf (Some run) label.Out runs h all = (h, all)
closed_by_stand conf None (label.Begin kind) runs h all = all
closed_by_stand conf (Some run) (label.Begin kind) runs h all = (h, all)
closed_by_stand conf last (label.Inside kind) runs h all = all

-- a blank line says nothing
blank_facts : (conf : Configuration) (text : List ℕ) (last : Option Run) (tokens : List Frag) (line : List ℕ) (lines : List (List ℕ)) (r : Result (List Tag) ColumnFault) → is_blank line ≡ true
    → Facts conf text last tokens lines r → Facts conf text last tokens (line ∷ lines) r
blank_facts conf text last tokens line lines (Err fault) blank f = tt
blank_facts conf text last tokens line lines (Ok tags) blank f = record {
  tokens_are = f.tokens_are;
  shown = cond-false (not (is_blank line)) (line ∷ shown_in lines) (shown_in lines) (ap not blank) ∙ f.shown;
  follows = f.follows;
  stands = f.stands;
}

tag_facts : (conf : Configuration) (text : List ℕ) (last : Option Run) (count : ℕ) (token : Frag) (tokens : List Frag) (line : List ℕ) (lines : List (List ℕ)) (label_ : Label) (r : Result (List Tag) ColumnFault) → is_blank line ≡ false
    → IsLabelled conf text last count token line label_ → Facts conf text (opened last token label_) tokens lines r → Facts conf text last (token ∷ tokens) (line ∷ lines) (with_tag (record { token = token; label = label_ }) r)
tag_facts conf text last count token tokens line lines label_ (Err fault) blank good f = tt
tag_facts conf text last count token tokens line lines label_ (Ok tags) blank good f = record {
  tokens_are = ap (λ ts. token ∷ ts) f.tokens_are;
  shown =
      cond-true (not (is_blank line)) (line ∷ shown_in lines) (shown_in lines) (ap not blank) ∙ ap (λ l. l ∷ shown_in lines) good.shown
      ∙ ap (λ ls. labelled_line conf text token label_ ∷ ls) f.shown;
  follows = (good.follows, f.follows);
  stands = λ h. closed_by_stand conf last label_ (runs_from (opened last token label_) tags) h (f.stands (good.kept h));
}

judged_facts : (conf : Configuration) (text : List ℕ) (number : ℕ) (last : Option Run) (count : ℕ) (token : Frag) (tokens : List Frag) (line : List ℕ) (lines : List (List ℕ)) (j : Judged)
    (rest : Label → Result (List Tag) ColumnFault) → is_blank line ≡ false → Good conf text last count token line j
    → ((label_ : Label) → Facts conf text (opened last token label_) tokens lines (rest label_))
    → Facts conf text last (token ∷ tokens) (line ∷ lines) (judged_then number j (λ label_. let tag : Tag = record { token = token; label = label_ } in with_tag tag (rest label_)))
judged_facts conf text number last count token tokens line lines (Fault what) rest blank good more = tt
judged_facts conf text number last count token tokens line lines (Read label_) rest blank good more = tag_facts conf text last count token tokens line lines label_ (rest label_) blank good (more label_)

none_facts : (conf : Configuration) (text : List ℕ) (number : ℕ) (last : Option Run) (count : ℕ) (line : List ℕ) (lines : List (List ℕ)) (j : Judged) → j ≡ judged conf text last count None line
    → Facts conf text last [] (line ∷ lines) (judged_then number j (λ label_. Ok []))
none_facts conf text number last count line lines (Fault what) is = tt
none_facts conf text number last count line lines (Read label_) is = absurd (no_token conf text last count line label_ is)

pub facts : (conf : Configuration) (text : List ℕ) (number : ℕ) (before : List Tag) (tokens : List Frag) (lines : List (List ℕ)) → Facts conf text (last_of before) tokens lines (read_from conf text number before tokens lines)
facts conf text number before [] [] = record { tokens_are = refl; shown = refl; follows = tt; stands = λ h. closed_stand conf (last_of before) h }
facts conf text number before (token ∷ tokens) [] = tt
facts conf text number before [] (line ∷ lines) =
    elim (is_blank line) as (λ b. is_blank line ≡ b → Facts conf text (last_of before) [] (line ∷ lines)
    (cond b (read_from conf text (number + 1) before [] lines) (judged_then number (judged conf text (last_of before) (begun before) None line) (λ label_. Ok [])))) [
      | true ↦ λ blank. blank_facts conf text (last_of before) [] line lines (read_from conf text (number + 1) before [] lines) blank (facts conf text (number + 1) before [] lines)
      | false ↦ λ blank. none_facts conf text number (last_of before) (begun before) line lines (judged conf text (last_of before) (begun before) None line) refl
    ] refl
facts conf text number before (token ∷ tokens) (line ∷ lines) =
    let rest : Label → Result (List Tag) ColumnFault = λ label_. let tag : Tag = record { token = token; label = label_ } in read_from conf text (number + 1) (tag ∷ before) tokens lines in
    elim (is_blank line) as (λ b. is_blank line ≡ b → Facts conf text (last_of before) (token ∷ tokens) (line ∷ lines)
    (cond b (read_from conf text (number + 1) before (token ∷ tokens) lines)
    (judged_then number (judged conf text (last_of before) (begun before) (Some token) line) (λ label_. let tag : Tag = record { token = token; label = label_ } in with_tag tag (rest label_))))) [
      | true ↦ λ blank. blank_facts conf text (last_of before) (token ∷ tokens) line lines (read_from conf text (number + 1) before (token ∷ tokens) lines) blank (facts conf text (number + 1) before (token ∷ tokens) lines)
      | false ↦ λ blank.
          judged_facts conf text number (last_of before) (begun before) token tokens line lines (judged conf text (last_of before) (begun before) (Some token) line) rest blank
          (good_judged conf text (last_of before) (begun before) token line)
          (λ label_. let tag : Tag = record { token = token; label = label_ } in facts conf text (number + 1) (tag ∷ before) tokens lines)
    ] refl

-- the lines of tokens whose labels spans give
pub lines_by : (conf : Configuration) (text : List ℕ) (runs : List Run) (tags : List Tag) → map (label_of runs) (tokens_in tags) ≡ map (λ tag. tag.label) tags
    → map (column_line conf text runs) (tokens_in tags) ≡ map (tag_line conf text) tags
lines_by conf text runs [] h = refl
lines_by conf text runs (tag ∷ tags) h =
    let first : label_of runs tag.token ≡ tag.label = cc in
    let rest : map (label_of runs) (tokens_in tags) ≡ map (λ tag. tag.label) tags = cc in
    let more : map (column_line conf text runs) (tokens_in tags) ≡ map (tag_line conf text) tags = lines_by conf text runs tags rest in
    ap (λ l. labelled_line conf text tag.token l ∷ map (column_line conf text runs) (tokens_in tags)) first ∙ ap (λ ls. labelled_line conf text tag.token tag.label ∷ ls) more
