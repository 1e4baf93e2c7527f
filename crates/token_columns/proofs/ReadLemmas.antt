-- What is read line by line.
use Rattle.std.proofs.Common.{◌≡◌, ℕ, ◌+◌, ◌<◌, ◌≤◌, ◌==◌, true, false, cond, List, [], ◌∷◌, ◌++◌, map, Option, Some, None, Result, Ok, Err, refl, sym, ◌∙◌, ap, subst, arith, length, drop, get_or, append_assoc, length-append, slice_get, zero, suc}
use Rattle.std.specs.Prelude.{IfSome}
use denote.Ref.{Bor}
use Rattle.token_columns.specs.Columns.{token_text}
use Rattle.token_columns.specs.LineShows.{seen_text}
use Rattle.token_columns.proofs.JudgedLemmas.{Good, good_judged}
use Rattle.std.proofs.lemmas.List.Sums.{sum_by-cons}
use Rattle.std.proofs.lemmas.List.{at_drop_more}
use Rattle.std.proofs.lemmas.Bool.{cond-true, cond-false}
use Rattle.std.specs.List.{slice_split}
use Rattle.token_columns.specs.declared.label.LabelForm.{LabelForm}
use Rattle.mark_base.specs.declared.fragments.Frag.{Frag}
use Rattle.conf_model.specs.Configurations.{Configuration}
use Rattle.token_columns.specs.declared.column_fault.ColumnWhat.{ColumnWhat}
use Rattle.token_columns.specs.declared.column_fault.ColumnWhat.TheVariants.{BadLine, TooMany, TooFew}
use Rattle.token_columns.specs.declared.column_fault.ColumnFault.{ColumnFault}
use Rattle.token_columns.specs.declared.column_fault.ColumnFault.TheVariants.{At}
use Rattle.token_columns.specs.declared.label.Label.{Label}
use Rattle.token_columns.specs.declared.label.Label.TheVariants as label
use Rattle.token_columns.specs.declared.line.Judged.TheVariants.{Fault, Read}
use Rattle.token_columns.specs.declared.run.Run.{Run}
use Rattle.token_columns.specs.ReadColumns.{Tag, opened, last_of, begun, is_begin, is_blank, form_of, field_at, fields_at, judged, judged_then, with_tag, read_from}
use Rattle.token_columns.specs.ReadRuns.{closed, closed_by, runs_from, ahead, ahead_of, AreRuns}

-- ---- the tokens so far

pub none_so_far : AreRuns [] [] None
none_so_far = record { opens = refl; count = refl; made = λ rest. refl }

-- one for a token that begins a span
abbrev begin_one : Tag → ℕ
begin_one tag = cond (is_begin tag.label) 1 0

counted : (before : List Tag) (runs now : List Run) (last : Option Run) (token : Frag) (label_ : Label) → length runs + length (closed last) ≡ begun before → now ≡ runs ++ closed_by last label_
    → length now + length (closed (opened last token label_)) ≡ begun (record { token = token; label = label_ } ∷ before)
counted before runs now last token label.Out h is = omega (arith, h, ap length is, length-append runs (closed last), sum_by-cons begin_one (record { token = token; label = label.Out }) before)
counted before runs now last token (label.Begin kind) h is = omega (arith, h, ap length is, length-append runs (closed last), sum_by-cons begin_one (record { token = token; label = label.Begin kind }) before)
counted before runs now None token (label.Inside kind) h is =
    omega (arith, h, ap length is, length-append {A = Run} runs [], sum_by-cons begin_one (record { token = token; label = label.Inside kind }) before)
counted before runs now (Some run) token (label.Inside kind) h is =
    omega (arith, h, ap length is, length-append {A = Run} runs [], sum_by-cons begin_one (record { token = token; label = label.Inside kind }) before)

pub one_more : (before : List Tag) (runs now : List Run) (last : Option Run) (token : Frag) (label_ : Label) → AreRuns before runs last → now ≡ runs ++ closed_by last label_
    → AreRuns (record { token = token; label = label_ } ∷ before) now (opened last token label_)
one_more before runs now last token label_ are is = record {
  opens = ap (λ l. opened l token label_) are.opens;
  count = counted before runs now last token label_ are.count is;
  made = λ rest.
      let tag : Tag = record { token = token; label = label_ } in
      ap (λ l. l ++ runs_from (opened last token label_) rest) is ∙ append_assoc runs (closed_by last label_) (runs_from (opened last token label_) rest) ∙ are.made (tag ∷ rest);
}

-- ---- one line more

-- what lines say before this one, and what is left
pub record Reads (conf : Configuration) (text : List ℕ) (number : ℕ) (tokens : List Frag) (rest : List (List ℕ)) (whole : Result (List Tag) ColumnFault) (runs : List Run) (last : Option Run) : Type 0 where
  pub before : List Tag
  pub are : AreRuns before runs last
  pub reads : ahead_of before (read_from conf text number before tokens rest) ≡ whole

-- a fault passes to the whole
pub fault_ahead : (before : List Tag) (fault : ColumnFault) → ahead_of before (Err fault) ≡ Err fault
fault_ahead [] fault = refl
fault_ahead (tag ∷ before) fault = fault_ahead before fault

pub tags_ahead : (before tags : List Tag) → ahead_of before (Ok tags) ≡ Ok (ahead before tags)
tags_ahead [] tags = refl
tags_ahead (tag ∷ before) tags = tags_ahead before (tag ∷ tags)

blank_read : (conf : Configuration) (text : List ℕ) (number : ℕ) (before : List Tag) (tokens : List Frag) (line : List ℕ) (more : List (List ℕ)) → is_blank line ≡ true
    → read_from conf text number before tokens (line ∷ more) ≡ read_from conf text (number + 1) before tokens more
blank_read conf text number before [] line more blank = cond-true (is_blank line) _ _ blank
blank_read conf text number before (token ∷ tokens) line more blank = cond-true (is_blank line) _ _ blank

pub blank_step : (conf : Configuration) (text : List ℕ) (number : ℕ) (tokens : List Frag) (line : List ℕ) (more : List (List ℕ)) (whole : Result (List Tag) ColumnFault) (runs : List Run) (last : Option Run)
    → is_blank line ≡ true → Reads conf text number tokens (line ∷ more) whole runs last → Reads conf text (number + 1) tokens more whole runs last
blank_step conf text number tokens line more whole runs last blank r = record {
  before = r.before;
  are = r.are;
  reads = sym (ap (ahead_of r.before) (blank_read conf text number r.before tokens line more blank)) ∙ r.reads;
}

-- the first of some tokens
abbrev pub first_of : List Frag → Option Frag
first_of [] = None
first_of (token ∷ tokens) = Some token

fault_read : (conf : Configuration) (text : List ℕ) (number : ℕ) (before : List Tag) (tokens : List Frag) (line : List ℕ) (more : List (List ℕ)) (what : ColumnWhat) → is_blank line ≡ false
    → judged conf text (last_of before) (begun before) (first_of tokens) line ≡ Fault what → read_from conf text number before tokens (line ∷ more) ≡ Err (At number what)
fault_read conf text number before [] line more what blank is =
    cond-false (is_blank line) _ _ blank ∙ ap (λ j. judged_then number j (λ label_. Ok [])) is
fault_read conf text number before (token ∷ tokens) line more what blank is =
    cond-false (is_blank line) _ _ blank
    ∙ ap (λ j. judged_then number j (λ label_. let tag : Tag = record { token = token; label = label_ } in with_tag tag (read_from conf text (number + 1) (tag ∷ before) tokens more))) is

pub fault_step : (conf : Configuration) (text : List ℕ) (number : ℕ) (tokens : List Frag) (line : List ℕ) (more : List (List ℕ)) (whole : Result (List Tag) ColumnFault) (runs : List Run) (last : Option Run)
    (count : ℕ) (next : Option Frag) (what : ColumnWhat)
    → is_blank line ≡ false → Reads conf text number tokens (line ∷ more) whole runs last → count ≡ length runs + length (closed last) → next ≡ first_of tokens
    → Fault what ≡ judged conf text last count next line → whole ≡ Err (At number what)
fault_step conf text number tokens line more whole runs last count next what blank r counts at is =
    let same : judged conf text (last_of r.before) (begun r.before) (first_of tokens) line ≡ Fault what =
    sym (ap (λ l. judged conf text l (begun r.before) (first_of tokens) line) r.are.opens) ∙ sym (ap (λ n. judged conf text last n (first_of tokens) line) (counts ∙ r.are.count))
    ∙ sym (ap (λ o. judged conf text last count o line) at) ∙ sym is in
    sym r.reads ∙ ap (ahead_of r.before) (fault_read conf text number r.before tokens line more what blank same) ∙ fault_ahead r.before (At number what)

pub label_step : (conf : Configuration) (text : List ℕ) (number : ℕ) (token : Frag) (tokens : List Frag) (line : List ℕ) (more : List (List ℕ)) (whole : Result (List Tag) ColumnFault) (runs now : List Run) (last : Option Run)
    (count : ℕ) (label_ : Label)
    → is_blank line ≡ false → Reads conf text number (token ∷ tokens) (line ∷ more) whole runs last → count ≡ length runs + length (closed last)
    → Read label_ ≡ judged conf text last count (Some token) line → now ≡ runs ++ closed_by last label_
    → Reads conf text (number + 1) tokens more whole now (opened last token label_)
label_step conf text number token tokens line more whole runs now last count label_ blank r counts is added =
    let tag : Tag = record { token = token; label = label_ } in
    let same : judged conf text (last_of r.before) (begun r.before) (Some token) line ≡ Read label_ =
    sym (ap (λ l. judged conf text l (begun r.before) (Some token) line) r.are.opens) ∙ sym (ap (λ n. judged conf text last n (Some token) line) (counts ∙ r.are.count)) ∙ sym is in
    record {
      before = tag ∷ r.before;
      are = one_more r.before runs now last token label_ r.are added;
      reads =
          sym (ap (ahead_of r.before) (cond-false (is_blank line) _ _ blank
          ∙ ap (λ j. judged_then number j (λ l. let t : Tag = record { token = token; label = l } in with_tag t (read_from conf text (number + 1) (t ∷ r.before) tokens more))) same))
          ∙ r.reads;
    }

no_form : (conf : Configuration) (text : List ℕ) (last : Option Run) (count : ℕ) (label_ : Label) (shown field : List ℕ) (o : Option LabelForm) → Read label_ ≡ field_at conf text last count None shown field o → ⊥
no_form conf text last count label_ shown field None is = absurd (let e : Read label_ ≡ Fault BadLine = is in cc)
no_form conf text last count label_ shown field (Some form_) is = absurd (let e : Read label_ ≡ Fault TooMany = is in cc)

no_fields : (conf : Configuration) (text : List ℕ) (last : Option Run) (count : ℕ) (label_ : Label) (fields : List (List ℕ)) → Read label_ ≡ fields_at conf text last count None fields → ⊥
no_fields conf text last count label_ [] is = absurd (let e : Read label_ ≡ Fault BadLine = is in cc)
no_fields conf text last count label_ (shown ∷ []) is = absurd (let e : Read label_ ≡ Fault BadLine = is in cc)
no_fields conf text last count label_ (shown ∷ field ∷ []) is = no_form conf text last count label_ shown field (form_of field) is
no_fields conf text last count label_ (shown ∷ field ∷ other ∷ more) is = absurd (let e : Read label_ ≡ Fault BadLine = is in cc)

-- a label is read only where a token is left
pub no_token : (conf : Configuration) (text : List ℕ) (last : Option Run) (count : ℕ) (line : List ℕ) (label_ : Label) → Read label_ ≡ judged conf text last count None line → ⊥
unfolding judged
no_token conf text last count line label_ is = no_fields conf text last count label_ (slice_split (λ b. b == 9) line) is

-- ---- the end

pub few_step : (conf : Configuration) (text : List ℕ) (number : ℕ) (token : Frag) (tokens : List Frag) (whole : Result (List Tag) ColumnFault) (runs : List Run) (last : Option Run)
    → Reads conf text number (token ∷ tokens) [] whole runs last → whole ≡ Err (At number TooFew)
few_step conf text number token tokens whole runs last r = sym r.reads ∙ fault_ahead r.before (At number TooFew)

pub end_step : (conf : Configuration) (text : List ℕ) (number : ℕ) (whole : Result (List Tag) ColumnFault) (runs now : List Run) (last : Option Run)
    → Reads conf text number [] [] whole runs last → now ≡ runs ++ closed last → (tags : List Tag) × (whole ≡ Ok tags) × (now ≡ runs_from None tags)
end_step conf text number whole runs now last r added =
    (ahead r.before [], sym r.reads ∙ tags_ahead r.before [], added ∙ r.are.made [])

-- ---- what the loop reads

pub lines_next : (lines : List (Bor (List ℕ))) (i : ℕ) (d : Bor (List ℕ)) → i < length lines → map seen_text (drop i lines) ≡ (get_or lines i d).now ∷ map seen_text (drop (i + 1) lines)
lines_next lines i d within = at_drop_more (map seen_text) lines i d within

pub first_at : (tokens : List Frag) (i : ℕ) → slice_get tokens i ≡ first_of (drop i tokens)
first_at [] zero = refl
first_at [] (suc i) = refl
first_at (token ∷ tokens) zero = refl
first_at (token ∷ tokens) (suc i) = first_at tokens i

pub text_at : (doc : List ℕ) (tokens : List Frag) (i : ℕ) → IfSome (slice_get tokens i) (λ token. get_or (map (token_text doc) tokens) i [] ≡ token_text doc token)
text_at doc [] zero = tt
text_at doc [] (suc i) = tt
text_at doc (token ∷ tokens) zero = refl
text_at doc (token ∷ tokens) (suc i) = text_at doc tokens i

nothing_at : (i : ℕ) → slice_get {X = Frag} [] i ≡ None
nothing_at zero = refl
nothing_at (suc i) = refl

pub some_token : (conf : Configuration) (text : List ℕ) (tokens : List Frag) (place : ℕ) (last : Option Run) (count : ℕ) (line : List ℕ) (label_ : Label) (next : Option Frag) → next ≡ slice_get tokens place
    → Read label_ ≡ judged conf text last count next line → place < length tokens
some_token conf text [] place last count line label_ next at is = absurd (no_token conf text last count line label_ (is ∙ ap (λ o. judged conf text last count o line) (at ∙ nothing_at place)))
some_token conf text (token ∷ tokens) zero last count line label_ next at is = omega arith
some_token conf text (token ∷ tokens) (suc place) last count line label_ next at is =
    let h : place < length tokens = some_token conf text tokens place last count line label_ next at is in omega arith

pub room_step : (runs now : List Run) (last : Option Run) (token : Frag) (label_ : Label) → length runs + length (closed last) ≤ 10000 → (is_begin label_ ≡ true → length runs + length (closed last) < 10000)
    → now ≡ runs ++ closed_by last label_ → length now + length (closed (opened last token label_)) ≤ 10000
room_step runs now last token label.Out few room is = omega (arith, few, ap length is, length-append runs (closed last))
room_step runs now last token (label.Begin kind) few room is = let less = room refl in omega (arith, less, ap length is, length-append runs (closed last))
room_step runs now None token (label.Inside kind) few room is = omega (arith, few, ap length is, length-append {A = Run} runs [])
room_step runs now (Some run) token (label.Inside kind) few room is = omega (arith, few, ap length is, length-append {A = Run} runs [])

-- a label that is read leaves room
pub still_room : (conf : Configuration) (text : List ℕ) (runs now : List Run) (last : Option Run) (count : ℕ) (token : Frag) (line : List ℕ) (label_ : Label) → length runs + length (closed last) ≤ 10000
    → count ≡ length runs + length (closed last) → Read label_ ≡ judged conf text last count (Some token) line → now ≡ runs ++ closed_by last label_ → length now + length (closed (opened last token label_)) ≤ 10000
still_room conf text runs now last count token line label_ few counts is added =
    let good : Good conf text last count token line (Read label_) = subst (Good conf text last count token line) (sym is) (good_judged conf text last count token line) in
    room_step runs now last token label_ few (λ begins. let less = good.room begins in omega (arith, less, counts)) added
