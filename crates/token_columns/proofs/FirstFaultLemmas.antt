-- The line at which reading stops is the first that has a fault.
use Rattle.std.proofs.Common.{◌≡◌, ℕ, suc, ◌+◌, ◌-◌, true, false, List, [], ◌∷◌, ◌++◌, length, take, append_assoc, append-nil, slice_get, Some, None, Result, Ok, Err, refl, sym, subst, ◌∙◌, ap, arith}
use mathlib.Core.List.{reverse, reverse-cons}
use Rattle.mark_base.specs.declared.fragments.Frag.{Frag}
use Rattle.char_documents.specs.Tokens.{tokens_of}
use Rattle.conf_model.specs.Configurations.{Configuration}
use Rattle.token_columns.specs.declared.column_fault.ColumnWhat.{ColumnWhat}
use Rattle.token_columns.specs.declared.column_fault.ColumnWhat.TheVariants.{TooFew}
use Rattle.token_columns.specs.declared.column_fault.ColumnFault.{ColumnFault}
use Rattle.token_columns.specs.declared.column_fault.ColumnFault.TheVariants.{At}
use Rattle.token_columns.specs.declared.label.Label.{Label}
use Rattle.token_columns.specs.declared.line.Judged.TheVariants.{Fault, Read}
use Rattle.token_columns.specs.ReadColumns.{Tag, begun, is_blank, judged, last_of, read_from, with_tag}
use Rattle.token_columns.specs.LineFaults.{IsAtFault, IsFirstFault}
use Rattle.token_columns.proofs.LineFaultLemmas.{told_least}

-- reading stops at a line behind some that label tokens
record Stops (conf : Configuration) (text : List ℕ) (first : ℕ) (before : List Tag) (tokens : List Frag) (lines : List (List ℕ)) (number : ℕ) (what : ColumnWhat) : Type 0 where
  passed : ℕ
  labelled : List Tag
  place : number ≡ first + passed
  read : read_from conf text first before (take (length labelled) tokens) (take passed lines) ≡ Ok labelled
  here : IsAtFault conf text (reverse labelled ++ before) (slice_get tokens (length labelled)) (slice_get lines passed) what

-- ---- one line more in front

blank_read : (conf : Configuration) (text : List ℕ) (n : ℕ) (before : List Tag) (tokens : List Frag) (line : List ℕ) (more : List (List ℕ)) → is_blank line ≡ true
    → read_from conf text n before tokens (line ∷ more) ≡ read_from conf text (n + 1) before tokens more
blank_read conf text n before [] line more blank = rw blank
blank_read conf text n before (token ∷ tokens) line more blank = rw blank

behind_blank : (conf : Configuration) (text : List ℕ) (n : ℕ) (before : List Tag) (tokens : List Frag) (line : List ℕ) (more : List (List ℕ)) (number : ℕ) (what : ColumnWhat) → is_blank line ≡ true
    → Stops conf text (n + 1) before tokens more number what → Stops conf text n before tokens (line ∷ more) number what
behind_blank conf text n before tokens line more number what blank stops = record {
  passed = suc stops.passed;
  labelled = stops.labelled;
  place = let p = stops.place in omega arith;
  read = blank_read conf text n before (take (length stops.labelled) tokens) line (take stops.passed more) blank ∙ stops.read;
  here = stops.here;
}

-- at a line that is not blank
stopped : (conf : Configuration) (text : List ℕ) (n : ℕ) (before : List Tag) (tokens : List Frag) (line : List ℕ) (more : List (List ℕ)) (number : ℕ) (what : ColumnWhat) → is_blank line ≡ false
    → judged conf text (last_of before) (begun before) (slice_get tokens 0) line ≡ Fault what → number ≡ n → Stops conf text n before tokens (line ∷ more) number what
stopped conf text n before tokens line more number what unblank fault place = record {
  passed = 0;
  labelled = [];
  place = omega arith;
  read = refl;
  here = (unblank, told_least conf text (last_of before) (begun before) (slice_get tokens 0) line what fault);
}

tag_of : Frag → Label → Tag
tag_of token label_ = record { token = token; label = label_ }

line_read : (conf : Configuration) (text : List ℕ) (n : ℕ) (before : List Tag) (token : Frag) (tokens : List Frag) (line : List ℕ) (more : List (List ℕ)) (label_ : Label) → is_blank line ≡ false
    → judged conf text (last_of before) (begun before) (Some token) line ≡ Read label_
    → read_from conf text n before (token ∷ tokens) (line ∷ more) ≡ with_tag (tag_of token label_) (read_from conf text (n + 1) (tag_of token label_ ∷ before) tokens more)
unfolding tag_of
line_read conf text n before token tokens line more label_ unblank read = rw (unblank, read)

behind_line : (conf : Configuration) (text : List ℕ) (n : ℕ) (before : List Tag) (token : Frag) (tokens : List Frag) (line : List ℕ) (more : List (List ℕ)) (label_ : Label) (number : ℕ) (what : ColumnWhat) → is_blank line ≡ false
    → judged conf text (last_of before) (begun before) (Some token) line ≡ Read label_
    → Stops conf text (n + 1) (tag_of token label_ ∷ before) tokens more number what → Stops conf text n before (token ∷ tokens) (line ∷ more) number what
behind_line conf text n before token tokens line more label_ number what unblank read stops =
    let tag : Tag = tag_of token label_ in
    record {
      passed = suc stops.passed;
      labelled = tag ∷ stops.labelled;
      place = let p = stops.place in omega arith;
      read = line_read conf text n before token (take (length stops.labelled) tokens) line (take stops.passed more) label_ unblank read ∙ ap (with_tag tag) stops.read;
      here = subst (λ tags. IsAtFault conf text tags (slice_get tokens (length stops.labelled)) (slice_get more stops.passed) what)
          (sym (append_assoc (reverse stops.labelled) (tag ∷ []) before) ∙ ap (λ tags. tags ++ before) (sym (reverse-cons tag stops.labelled))) stops.here;
    }

-- ---- reading

fault_of : (number n : ℕ) (what other : ColumnWhat) → (let told : Result (List Tag) ColumnFault = Err (At n other) in told) ≡ Err (At number what) → (number ≡ n) × (other ≡ what)
fault_of number n what other e = (cc, cc)

untagged : (tag : Tag) (read : Result (List Tag) ColumnFault) (fault : ColumnFault) → with_tag tag read ≡ Err fault → read ≡ Err fault
untagged tag (Ok tags) fault e = let lost : Ok (tag ∷ tags) ≡ Err fault = e in cc
untagged tag (Err other) fault e = e

stops : (conf : Configuration) (text : List ℕ) (n : ℕ) (before : List Tag) (tokens : List Frag) (lines : List (List ℕ)) (number : ℕ) (what : ColumnWhat)
    → read_from conf text n before tokens lines ≡ Err (At number what) → Stops conf text n before tokens lines number what
stops conf text n before [] [] number what e = let lost : Ok [] ≡ Err (At number what) = e in absurd (cc)
stops conf text n before (token ∷ tokens) [] number what e =
    let is = fault_of number n what TooFew e in
    record { passed = 0; labelled = []; place = let p = is.0 in omega arith; read = refl; here = (sym is.1, refl) }
stops conf text n before [] (line ∷ more) number what e =
    elim (is_blank line) as (λ b. is_blank line ≡ b → Stops conf text n before [] (line ∷ more) number what) [
      | true ↦ λ blank. behind_blank conf text n before [] line more number what blank (stops conf text (n + 1) before [] more number what (sym (blank_read conf text n before [] line more blank) ∙ e))
      | false ↦ λ unblank. elim (judged conf text (last_of before) (begun before) None line) as (λ j. judged conf text (last_of before) (begun before) None line ≡ j → Stops conf text n before [] (line ∷ more) number what) [
        | Fault other ↦ λ f. let is = fault_of number n what other (rw (unblank, f) at e) in stopped conf text n before [] line more number what unblank (f ∙ ap Fault is.1) is.0
        | Read label_ ↦ λ f. let lost : Ok [] ≡ Err (At number what) = rw (unblank, f) at e in absurd (cc)
      ] refl
    ] refl
stops conf text n before (token ∷ tokens) (line ∷ more) number what e =
    elim (is_blank line) as (λ b. is_blank line ≡ b → Stops conf text n before (token ∷ tokens) (line ∷ more) number what) [
      | true ↦ λ blank. behind_blank conf text n before (token ∷ tokens) line more number what blank (stops conf text (n + 1) before (token ∷ tokens) more number what (sym (blank_read conf text n before (token ∷ tokens) line more blank) ∙ e))
      | false ↦ λ unblank. elim (judged conf text (last_of before) (begun before) (Some token) line) as (λ j. judged conf text (last_of before) (begun before) (Some token) line ≡ j → Stops conf text n before (token ∷ tokens) (line ∷ more) number what) [
        | Fault other ↦ λ f. let is = fault_of number n what other (rw (unblank, f) at e) in stopped conf text n before (token ∷ tokens) line more number what unblank (f ∙ ap Fault is.1) is.0
        | Read label_ ↦ λ f.
            behind_line conf text n before token tokens line more label_ number what unblank f
            (stops conf text (n + 1) (tag_of token label_ ∷ before) tokens more number what
            (untagged (tag_of token label_) _ (At number what) (sym (line_read conf text n before token tokens line more label_ unblank f) ∙ e)))
      ] refl
    ] refl

pub first_fault : (conf : Configuration) (text : List ℕ) (lines : List (List ℕ)) (number : ℕ) (what : ColumnWhat)
    → read_from conf text 1 [] (tokens_of text) lines ≡ Err (At number what) → IsFirstFault conf text lines number what
first_fault conf text lines number what e =
    let s : Stops conf text 1 [] (tokens_of text) lines number what = stops conf text 1 [] (tokens_of text) lines number what e in
    let back : s.passed ≡ number - 1 = let p = s.place in omega arith in
    record {
      labelled = s.labelled;
      before = subst (λ k. read_from conf text 1 [] (take (length s.labelled) (tokens_of text)) (take k lines) ≡ Ok s.labelled) back s.read;
      here = subst (λ k. IsAtFault conf text (reverse s.labelled) (slice_get (tokens_of text) (length s.labelled)) (slice_get lines k) what) back
          (subst (λ tags. IsAtFault conf text tags (slice_get (tokens_of text) (length s.labelled)) (slice_get lines s.passed) what) (append-nil (reverse s.labelled)) s.here);
    }
