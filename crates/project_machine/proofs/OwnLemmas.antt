-- What an annotator makes happen changes no other annotator's row.
use Rattle.std.proofs.Common.{◌≡◌, ◌≢◌, ℕ, ◌<◌, true, false, not, List, [], length, set, get_or, bytes_eq, Some, None, sym, ◌∙◌, ap, subst, arith, inl, inr}
use Rattle.std.specs.List.{list_any, position_or_len}
use Rattle.std.proofs.lemmas.Bool.{cases_lt}
use Rattle.std.proofs.lemmas.Grind.{get_or-set_at}
use Rattle.std.proofs.lemmas.List.{get_or-set_other, set_past}
use Rattle.std.proofs.lemmas.List.Sums.{passes_at_first}
use Rattle.std.proofs.lemmas.Slice.Eq.{bytes_eq-Decides}
use Rattle.project_machine.specs.declared.book_refusal.BookRefusal.TheVariants as no
use Rattle.project_machine.specs.declared.book_refusal.Policy.TheVariants as policy
use Rattle.project_machine.specs.ProjectState.{Row, Document, ProjectState, blank_row, no_document, row, rater_of, with_row, number_of, annotators, is_annotator, is_curator}
use Rattle.project_machine.specs.Requests.{Asked, ReadConf, ListDocs, ReadText, AddText, Checkout, TakeOver, Commit, Park, Finish, ReadLayer, Reopen, Ignore, Readmit, Snap, TakeSnapshot, Decide, Undecide, ReadPairs, ReadAlpha, ReadReport, Happened, CheckedOut, TakenOver, LayerCommitted, LayerParked, LayerFinished}
use Rattle.project_machine.specs.Machine.{step, refusal, change, when}
use Rattle.project_machine.specs.History.{effect, on_row, under_hold, with_commit, with_draft, with_finished}
use Rattle.project_machine.proofs.HistoryLemmas.{granted}
use Rattle.project_machine.proofs.RowLemmas.{same_or}
use Rattle.project_machine.proofs.KeptLemmas.{allowed, annotates, any_within, false_true, unmet}
use Rattle.project_machine.proofs.LegalLemmas.{none_some, some_same}

-- names of one place are the same
pub raters_same : (names : List (List ℕ)) (a b : List ℕ) → list_any (bytes_eq a) names ≡ true → position_or_len (bytes_eq b) names ≡ position_or_len (bytes_eq a) names → b ≡ a
raters_same names a b e same =
    let within : position_or_len (bytes_eq a) names < length names = any_within (bytes_eq a) names e in
    let first : bytes_eq a (get_or names (position_or_len (bytes_eq a) names) []) ≡ true = passes_at_first (bytes_eq a) names [] within in
    let second : bytes_eq b (get_or names (position_or_len (bytes_eq b) names) []) ≡ true = passes_at_first (bytes_eq b) names [] (omega arith) in
    (bytes_eq-Decides b (get_or names (position_or_len (bytes_eq b) names) [])).0 second
    ∙ (ap (λ i. get_or names i []) same ∙ sym ((bytes_eq-Decides a (get_or names (position_or_len (bytes_eq a) names) [])).0 first))

-- the row of another rater
rows_other : (d : Document) (i j : ℕ) (new : Row) → j ≢ i → get_or (with_row i new d).rows j blank_row ≡ get_or d.rows j blank_row
rows_other d i j new other = get_or-set_other d.rows i j new blank_row other

in_document : (ds : List Document) (n doc i j : ℕ) (new : Row) → j ≢ i → get_or (get_or (set ds n (with_row i new (get_or ds n no_document))) doc no_document).rows j blank_row ≡ get_or (get_or ds doc no_document).rows j blank_row
in_document ds n doc i j new other =
    let nd : Document = with_row i new (get_or ds n no_document) in
    elim (cases_lt n (length ds)) as (λ _. get_or (get_or (set ds n nd) doc no_document).rows j blank_row ≡ get_or (get_or ds doc no_document).rows j blank_row) [
      | inr past ↦ ap (λ (all : List Document). get_or (get_or all doc no_document).rows j blank_row) (set_past ds n nd past)
      | inl within ↦ elim (same_or doc n) as (λ _. get_or (get_or (set ds n nd) doc no_document).rows j blank_row ≡ get_or (get_or ds doc no_document).rows j blank_row) [
        | inl here ↦ ap (λ (d : Document). get_or d.rows j blank_row) (get_or-set_at ds n doc nd no_document here within)
            ∙ (rows_other (get_or ds n no_document) i j new other ∙ ap (λ k. get_or (get_or ds k no_document).rows j blank_row) (sym here))
        | inr elsewhere ↦ ap (λ (d : Document). get_or d.rows j blank_row) (get_or-set_other ds n doc nd no_document elsewhere)
      ]
    ]

-- another row of an annotator leaves those of the others
pub row_other : (s : ProjectState) (n doc : ℕ) (caller who : List ℕ) (changed : Row → Row) → is_annotator s caller ≡ true → who ≢ caller → row (on_row s n caller changed) doc who ≡ row s doc who
row_other s n doc caller who changed is other =
    in_document s.documents n doc (rater_of s caller) (rater_of s who) (changed (row s n caller)) (λ same. other (raters_same (annotators s) caller who is same))

curates : (s : ProjectState) (caller : List ℕ) → is_curator s caller ≡ false → when (not (is_curator s caller)) (no.NotAllowed policy.Curator) ≡ None → ⊥
curates s caller is e = false_true (sym is ∙ unmet (is_curator s caller) (no.NotAllowed policy.Curator) e)

change_other : (s : ProjectState) (caller who : List ℕ) (asked : Asked) (e : Happened) (place doc : ℕ) → is_curator s caller ≡ false → who ≢ caller → refusal s caller asked ≡ None → change s caller asked ≡ Some e → row (effect place e s) doc who ≡ row s doc who
change_other s caller who ReadConf e place doc lay other free is = absurd (none_some e is)
change_other s caller who ListDocs e place doc lay other free is = absurd (none_some e is)
change_other s caller who (ReadText name) e place doc lay other free is = absurd (none_some e is)
change_other s caller who (ReadLayer name whose) e place doc lay other free is = absurd (none_some e is)
change_other s caller who (AddText name text) e place doc lay other free is = absurd (curates s caller lay (allowed s caller (AddText name text) free))
change_other s caller who (Reopen name whose) e place doc lay other free is = absurd (curates s caller lay (allowed s caller (Reopen name whose) free))
change_other s caller who (Ignore name whose) e place doc lay other free is = absurd (curates s caller lay (allowed s caller (Ignore name whose) free))
change_other s caller who (Readmit name whose) e place doc lay other free is = absurd (curates s caller lay (allowed s caller (Readmit name whose) free))
change_other s caller who (Snap name) e place doc lay other free is = absurd (curates s caller lay (allowed s caller (Snap name) free))
change_other s caller who (TakeSnapshot number) e place doc lay other free is = absurd (none_some e is)
change_other s caller who (Decide number holder id verdict) e place doc lay other free is = absurd (curates s caller lay (allowed s caller (Decide number holder id verdict) free))
change_other s caller who (Undecide number holder id) e place doc lay other free is = absurd (curates s caller lay (allowed s caller (Undecide number holder id) free))
change_other s caller who ReadPairs e place doc lay other free is = absurd (none_some e is)
change_other s caller who ReadAlpha e place doc lay other free is = absurd (none_some e is)
change_other s caller who (ReadReport report) e place doc lay other free is = absurd (none_some e is)
change_other s caller who (Checkout name) e place doc lay other free is =
    subst (λ x. row (effect place x s) doc who ≡ row s doc who) (some_same (CheckedOut caller (number_of s name)) e is)
    (row_other s (number_of s name) doc caller who (under_hold (Some place)) (annotates s caller (allowed s caller (Checkout name) free)) other)
change_other s caller who (TakeOver name) e place doc lay other free is =
    subst (λ x. row (effect place x s) doc who ≡ row s doc who) (some_same (TakenOver caller (number_of s name)) e is)
    (row_other s (number_of s name) doc caller who (under_hold (Some place)) (annotates s caller (allowed s caller (TakeOver name) free)) other)
change_other s caller who (Commit name hold layer) e place doc lay other free is =
    subst (λ x. row (effect place x s) doc who ≡ row s doc who) (some_same (LayerCommitted caller (number_of s name) hold layer) e is)
    (row_other s (number_of s name) doc caller who (with_commit layer) (annotates s caller (allowed s caller (Commit name hold layer) free)) other)
change_other s caller who (Park name hold done undone) e place doc lay other free is =
    subst (λ x. row (effect place x s) doc who ≡ row s doc who) (some_same (LayerParked caller (number_of s name) hold done undone) e is)
    (row_other s (number_of s name) doc caller who (with_draft done undone) (annotates s caller (allowed s caller (Park name hold done undone) free)) other)
change_other s caller who (Finish name) e place doc lay other free is =
    subst (λ x. row (effect place x s) doc who ≡ row s doc who) (some_same (LayerFinished caller (number_of s name)) e is)
    (row_other s (number_of s name) doc caller who (with_finished true) (annotates s caller (allowed s caller (Finish name) free)) other)

-- what one who is no curator makes happen leaves the rows of the others
pub step_other : (s : ProjectState) (caller who : List ℕ) (asked : Asked) (e : Happened) (place doc : ℕ) → is_curator s caller ≡ false → (step s caller asked).change ≡ Some e → who ≢ caller → row (effect place e s) doc who ≡ row s doc who
step_other s caller who asked e place doc lay is other = change_other s caller who asked e place doc lay other (granted s caller asked e is).free (granted s caller asked e is).made
