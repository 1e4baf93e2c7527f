-- While a layer is out under one hold, only commits under that hold change it; and what others do leaves a desk that is held open on its row.
use Rattle.std.proofs.Common.{◌≡◌, ◌≢◌, ◌⊎◌, ℕ, zero, suc, ◌+◌, ◌-◌, ◌<◌, ◌≤◌, ◌==◌, Bool, true, false, not, List, [], ◌∷◌, ◌++◌, length, set, get_or, map, replicate, take, slice_get, nat_lt, Option, Some, None, refl, sym, ◌∙◌, ap, subst, arith, inl, inr, bytes_eq, lt-ltb, length-append, append_assoc, if◌then◌else◌}
use Rattle.std.specs.List.{All, Contains, list_any, position_or_len}
use Rattle.std.specs.Option.{IsSomeAnd, option_map, option_map_or}
use Rattle.std.proofs.lemmas.Bool.{cases_lt, eqb-true, ltb-true}
use Rattle.std.proofs.lemmas.Grind.{get_or-set_at}
use Rattle.std.proofs.lemmas.List.{append-nil, get_or_append_left, get_or_past, get_or-set_other, set_past, take-append-le}
use Rattle.layer_model.specs.Annotations.{Annotations}
use Rattle.project_machine.specs.declared.book_refusal.BookRefusal.{BookRefusal}
use Rattle.project_machine.specs.declared.book_refusal.BookRefusal.TheVariants as no
use Rattle.project_machine.specs.ProjectState.{Row, Document, ProjectState, annotators, blank_row, document, is_there, new_document, no_document, number_of, rater_of, row, row_in, with_row}
use Rattle.project_machine.specs.Requests.{Asked, ReadConf, ListDocs, ReadText, AddText, Checkout, TakeOver, Commit, Park, Finish, ReadLayer, Reopen, Ignore, Readmit, Snap, TakeSnapshot, Decide, Undecide, ReadPairs, ReadAlpha, ReadReport, Happened, TextAdded, CheckedOut, TakenOver, LayerCommitted, LayerParked, LayerFinished, LayerReopened, LayerIgnored, LayerReadmitted, SnapshotTaken, ItemDecided, ItemUndecided, AllFreed, Founded, Restored, Answered, HandedOut, Out}
use Rattle.project_machine.specs.Machine.{Step, change, held, out_of, refusal, refused, reply, size_in, step, there, unless}
use Rattle.project_machine.specs.History.{after, begin, change_at, effect, freed, last, on_row, place_behind, under_hold, with_commit, with_draft, with_finished, with_ignored}
use Rattle.project_machine.specs.Legal.{IsLegal, legal_founding, legal_restored, legal_step, legal_freeing}
use Rattle.project_machine.specs.Asking.{LiesWithin}
use Rattle.project_machine.proofs.HistoryLemmas.{after_more, begin_more, granted, legal_some, place_last, step_next}
use Rattle.project_machine.proofs.KeptLemmas.{tests_free, unmet}
use Rattle.project_machine.proofs.LegalLemmas.{none_some, some_same}
use Rattle.project_machine.proofs.RowLemmas.{or_first, or_second, same_or}
use Rattle.layer_undo.specs.Desks.{DeskState}
use Rattle.annotation_http.specs.Exchanges.Connections.{Holding, handed, with_desk}
use Rattle.annotation_http.specs.Exchanges.OpenDesks.{CommitsUpTo, IsOpenOn, IsUnder, OwnsCommits, TakesOut}

-- ---- one row of a project of which a row was changed

one_row : (ds : List Document) (n doc i j : ℕ) (new : Row)
    → (get_or (get_or (set ds n (with_row i new (get_or ds n no_document))) doc no_document).rows j blank_row ≡ get_or (get_or ds doc no_document).rows j blank_row)
    ⊎ ((get_or (get_or (set ds n (with_row i new (get_or ds n no_document))) doc no_document).rows j blank_row ≡ new) × (get_or (get_or ds n no_document).rows i blank_row ≡ get_or (get_or ds doc no_document).rows j blank_row))
one_row ds n doc i j new = by_document (cases_lt n (length ds)) (same_or doc n)
  where
    d : Document
    d = get_or ds n no_document

    nd : Document
    nd = with_row i new d

    was : Row
    was = get_or (get_or ds doc no_document).rows j blank_row

    is : List Document → Row
    is all = get_or (get_or all doc no_document).rows j blank_row

    in_rows : doc ≡ n → (get_or nd.rows j blank_row ≡ was) ⊎ ((get_or nd.rows j blank_row ≡ new) × (get_or d.rows i blank_row ≡ was))
    in_rows here = by_row (cases_lt i (length d.rows)) (same_or j i)
      where
        from : get_or d.rows j blank_row ≡ was
        from = ap (λ k. get_or (get_or ds k no_document).rows j blank_row) (sym here)

        by_row : ((i < length d.rows) ⊎ (length d.rows ≤ i)) → ((j ≡ i) ⊎ (j ≢ i)) → (get_or nd.rows j blank_row ≡ was) ⊎ ((get_or nd.rows j blank_row ≡ new) × (get_or d.rows i blank_row ≡ was))
        by_row (inr past) other = inl (ap (λ rows. get_or rows j blank_row) (set_past d.rows i new past) ∙ from)
        by_row (inl within) (inr other) = inl (get_or-set_other d.rows i j new blank_row other ∙ from)
        by_row (inl within) (inl same) = inr (get_or-set_at d.rows i j new blank_row same within, ap (λ k. get_or d.rows k blank_row) (sym same) ∙ from)

    by_document : ((n < length ds) ⊎ (length ds ≤ n)) → ((doc ≡ n) ⊎ (doc ≢ n)) → (is (set ds n nd) ≡ was) ⊎ ((is (set ds n nd) ≡ new) × (get_or d.rows i blank_row ≡ was))
    by_document (inr past) other = inl (ap is (set_past ds n nd past))
    by_document (inl within) (inr other) = inl (ap (λ (x : Document). get_or x.rows j blank_row) (get_or-set_other ds n doc nd no_document other))
    by_document (inl within) (inl here) =
        subst (λ (x : Document). (get_or x.rows j blank_row ≡ was) ⊎ ((get_or x.rows j blank_row ≡ new) × (get_or d.rows i blank_row ≡ was)))
        (sym (get_or-set_at ds n doc nd no_document here within)) (in_rows here)

-- a row of a document that was added is blank, as is one that is not there
blank_at : (n k : ℕ) → get_or (replicate n blank_row) k blank_row ≡ blank_row
blank_at zero k = refl
blank_at (suc n) zero = refl
blank_at (suc n) (suc k) = blank_at n k

added_row : (ds : List Document) (new : Document) (doc i : ℕ) → get_or new.rows i blank_row ≡ blank_row → get_or (get_or (ds ++ new ∷ []) doc no_document).rows i blank_row ≡ get_or (get_or ds doc no_document).rows i blank_row
added_row [] new zero i blank = blank
added_row [] new (suc doc) i blank = refl
added_row (d ∷ ds) new zero i blank = refl
added_row (d ∷ ds) new (suc doc) i blank = added_row ds new doc i blank

-- a row of a project of which all are freed
map_at : {X Y : Type 0} (f : X → Y) (xs : List X) (k : ℕ) (d : X) → get_or (map f xs) k (f d) ≡ f (get_or xs k d)
map_at f [] k d = refl
map_at f (x ∷ xs) zero d = refl
map_at f (x ∷ xs) (suc k) d = map_at f xs k d

freed_row : (ds : List Document) (doc i : ℕ) → get_or (get_or (map freed ds) doc no_document).rows i blank_row ≡ under_hold None (get_or (get_or ds doc no_document).rows i blank_row)
freed_row ds doc i = ap (λ (d : Document). get_or d.rows i blank_row) (map_at freed ds doc no_document) ∙ map_at (under_hold None) (get_or ds doc no_document).rows i blank_row

-- ---- what one change does to a row

-- the layer stays, or the change is a commit under the hold under which it is out; and the hold stays, ends, or is the place of the change
record RowGoes (r t : Row) (place : ℕ) (e : Happened) : Type 0 where
  layer : (t.layer ≡ r.layer) ⊎ IsUnder r.hold e
  hold : (t.hold ≡ r.hold) ⊎ ((t.hold ≡ None) ⊎ (t.hold ≡ Some place))

same_row : (r t : Row) (place : ℕ) (e : Happened) → t ≡ r → RowGoes r t place e
same_row r t place e same = record { layer = inl (ap (λ (x : Row). x.layer) same); hold = inl (ap (λ (x : Row). x.hold) same) }

on_goes : (s : ProjectState) (n doc place : ℕ) (by who : List ℕ) (e : Happened) (changed : Row → Row) → RowGoes (row s n by) (changed (row s n by)) place e → RowGoes (row s doc who) (row (on_row s n by changed) doc who) place e
on_goes s n doc place by who e changed here = by_one (one_row s.documents n doc (rater_of s by) (rater_of s who) (changed (row s n by)))
  where
    by_one : (row (on_row s n by changed) doc who ≡ row s doc who) ⊎ ((row (on_row s n by changed) doc who ≡ changed (row s n by)) × (row s n by ≡ row s doc who)) → RowGoes (row s doc who) (row (on_row s n by changed) doc who) place e
    by_one (inl same) = same_row _ _ place e same
    by_one (inr (is, from)) =
        subst (λ (r : Row). RowGoes r (row (on_row s n by changed) doc who) place e) from (subst (λ (t : Row). RowGoes (row s n by) t place e) (sym is) here)

no_true : {X : Type 0} → false ≡ true → X
no_true e = absurd (let f : false ≡ true = e in cc)

out_under : (hold : ℕ) (o : Option ℕ) → option_map_or (λ out. out == hold) o false ≡ true → o ≡ Some hold
out_under hold None e = no_true e
out_under hold (Some out) e = ap Some (eqb-true out hold e)

-- a layer that is committed is out under the hold of the commit
commit_held : (s : ProjectState) (caller name : List ℕ) (hold : ℕ) (layer : Annotations) → refusal s caller (Commit name hold layer) ≡ None → (row_in s name caller).hold ≡ Some hold
commit_held s caller name hold layer free =
    out_under hold (row_in s name caller).hold
    (unmet (option_map_or (λ out. out == hold) (row_in s name caller).hold false) no.NotYours
    (or_first (held (row_in s name caller) hold) _ (or_second (there s name) _ (tests_free s caller (Commit name hold layer) free))))

change_goes : (s : ProjectState) (caller who : List ℕ) (asked : Asked) (e : Happened) (place doc : ℕ) → refusal s caller asked ≡ None → change s caller asked ≡ Some e → RowGoes (row s doc who) (row (effect place e s) doc who) place e
change_goes s caller who ReadConf e place doc free is = absurd (none_some e is)
change_goes s caller who ListDocs e place doc free is = absurd (none_some e is)
change_goes s caller who (ReadText name) e place doc free is = absurd (none_some e is)
change_goes s caller who (ReadLayer name whose) e place doc free is = absurd (none_some e is)
change_goes s caller who (TakeSnapshot number) e place doc free is = absurd (none_some e is)
change_goes s caller who ReadPairs e place doc free is = absurd (none_some e is)
change_goes s caller who ReadAlpha e place doc free is = absurd (none_some e is)
change_goes s caller who (ReadReport report) e place doc free is = absurd (none_some e is)
change_goes s caller who (AddText name text) e place doc free is =
    subst (λ (x : Happened). RowGoes (row s doc who) (row (effect place x s) doc who) place x) (some_same (TextAdded caller name text) e is)
    (same_row _ _ place (TextAdded caller name text) (added_row s.documents (new_document s name text) doc (rater_of s who) (blank_at (length (annotators s)) (rater_of s who))))
change_goes s caller who (Checkout name) e place doc free is =
    subst (λ (x : Happened). RowGoes (row s doc who) (row (effect place x s) doc who) place x) (some_same (CheckedOut caller (number_of s name)) e is)
    (on_goes s (number_of s name) doc place caller who (CheckedOut caller (number_of s name)) (under_hold (Some place)) (record { layer = inl refl; hold = inr (inr refl) }))
change_goes s caller who (TakeOver name) e place doc free is =
    subst (λ (x : Happened). RowGoes (row s doc who) (row (effect place x s) doc who) place x) (some_same (TakenOver caller (number_of s name)) e is)
    (on_goes s (number_of s name) doc place caller who (TakenOver caller (number_of s name)) (under_hold (Some place)) (record { layer = inl refl; hold = inr (inr refl) }))
change_goes s caller who (Commit name hold layer) e place doc free is =
    subst (λ (x : Happened). RowGoes (row s doc who) (row (effect place x s) doc who) place x) (some_same (LayerCommitted caller (number_of s name) hold layer) e is)
    (on_goes s (number_of s name) doc place caller who (LayerCommitted caller (number_of s name) hold layer) (with_commit layer) (record { layer = inr (commit_held s caller name hold layer free); hold = inl refl }))
change_goes s caller who (Park name hold done undone) e place doc free is =
    subst (λ (x : Happened). RowGoes (row s doc who) (row (effect place x s) doc who) place x) (some_same (LayerParked caller (number_of s name) hold done undone) e is)
    (on_goes s (number_of s name) doc place caller who (LayerParked caller (number_of s name) hold done undone) (with_draft done undone) (record { layer = inl refl; hold = inr (inl refl) }))
change_goes s caller who (Finish name) e place doc free is =
    subst (λ (x : Happened). RowGoes (row s doc who) (row (effect place x s) doc who) place x) (some_same (LayerFinished caller (number_of s name)) e is)
    (on_goes s (number_of s name) doc place caller who (LayerFinished caller (number_of s name)) (with_finished true) (record { layer = inl refl; hold = inl refl }))
change_goes s caller who (Reopen name whose) e place doc free is =
    subst (λ (x : Happened). RowGoes (row s doc who) (row (effect place x s) doc who) place x) (some_same (LayerReopened caller (number_of s name) whose) e is)
    (on_goes s (number_of s name) doc place whose who (LayerReopened caller (number_of s name) whose) (with_finished false) (record { layer = inl refl; hold = inl refl }))
change_goes s caller who (Ignore name whose) e place doc free is =
    subst (λ (x : Happened). RowGoes (row s doc who) (row (effect place x s) doc who) place x) (some_same (LayerIgnored caller (number_of s name) whose) e is)
    (on_goes s (number_of s name) doc place whose who (LayerIgnored caller (number_of s name) whose) (with_ignored true) (record { layer = inl refl; hold = inl refl }))
change_goes s caller who (Readmit name whose) e place doc free is =
    subst (λ (x : Happened). RowGoes (row s doc who) (row (effect place x s) doc who) place x) (some_same (LayerReadmitted caller (number_of s name) whose) e is)
    (on_goes s (number_of s name) doc place whose who (LayerReadmitted caller (number_of s name) whose) (with_ignored false) (record { layer = inl refl; hold = inl refl }))
change_goes s caller who (Snap name) e place doc free is =
    subst (λ (x : Happened). RowGoes (row s doc who) (row (effect place x s) doc who) place x) (some_same _ e is) (same_row _ _ place _ refl)
change_goes s caller who (Decide number holder id verdict) e place doc free is =
    subst (λ (x : Happened). RowGoes (row s doc who) (row (effect place x s) doc who) place x) (some_same _ e is) (same_row _ _ place _ refl)
change_goes s caller who (Undecide number holder id) e place doc free is =
    subst (λ (x : Happened). RowGoes (row s doc who) (row (effect place x s) doc who) place x) (some_same _ e is) (same_row _ _ place _ refl)

step_goes : (s : ProjectState) (caller who : List ℕ) (asked : Asked) (e : Happened) (place doc : ℕ) → (step s caller asked).change ≡ Some e → RowGoes (row s doc who) (row (effect place e s) doc who) place e
step_goes s caller who asked e place doc is = change_goes s caller who asked e place doc (granted s caller asked e is).free (granted s caller asked e is).made

-- a step changes the layer of a row only by a commit under the hold under which it is out
pub step_under : (s : ProjectState) (caller who : List ℕ) (asked : Asked) (e : Happened) (place doc : ℕ) → (step s caller asked).change ≡ Some e → ((row (effect place e s) doc who).layer ≡ (row s doc who).layer) ⊎ IsUnder (row s doc who).hold e
step_under s caller who asked e place doc is = (step_goes s caller who asked e place doc is).layer

freeing_goes : (s : ProjectState) (place doc : ℕ) (who : List ℕ) → RowGoes (row s doc who) (row (effect place AllFreed s) doc who) place AllFreed
freeing_goes s place doc who =
    let is : row (effect place AllFreed s) doc who ≡ under_hold None (row s doc who) = freed_row s.documents doc (rater_of s who) in
    record { layer = inl (ap (λ (r : Row). r.layer) is); hold = inr (inl (ap (λ (r : Row). r.hold) is)) }

-- ---- changes of a history that goes on

get_more : (xs more : List Happened) (k : ℕ) (e : Happened) → slice_get xs k ≡ Some e → slice_get (xs ++ more) k ≡ Some e
get_more [] more k e is = absurd (none_some e is)
get_more (x ∷ xs) more zero e is = is
get_more (x ∷ xs) more (suc k) e is = get_more xs more k e is

at_more : (log more : List Happened) (k : ℕ) (b : Bool) (e : Happened) → (if b then slice_get log k else None) ≡ Some e → (if b then slice_get (log ++ more) k else None) ≡ Some e
at_more log more k true e is = get_more log more k e is
at_more log more k false e is = absurd (none_some e is)

-- a change stands where it stood
change_more : (log more : List Happened) (place : ℕ) (e : Happened) → 0 < length log → change_at place log ≡ Some e → change_at place (log ++ more) ≡ Some e
change_more log more place e some is =
    subst (λ (n : ℕ). (if nat_lt n place then slice_get (log ++ more) (place - n - 1) else None) ≡ Some e) (sym (begin_more log more some))
    (at_more log more (place - begin log - 1) (nat_lt (begin log) place) e is)

get_end : (xs : List Happened) (e : Happened) → slice_get (xs ++ e ∷ []) (length xs) ≡ Some e
get_end [] e = refl
get_end (x ∷ xs) e = get_end xs e

at_end : (log : List Happened) (e : Happened) (n : ℕ) (b : Bool) → nat_lt n (last log + 1) ≡ b → n ≡ begin log → (if b then slice_get (log ++ e ∷ []) (last log + 1 - n - 1) else None) ≡ Some e
at_end log e n true is begins = (let index : last log + 1 - n - 1 ≡ length log = omega (arith, begins) in ap (slice_get (log ++ e ∷ [])) index ∙ get_end log e)
at_end log e n false is begins = no_true (sym is ∙ lt-ltb n (last log + 1) (omega (arith, begins)))

-- the next change stands at the next place
change_end : (log : List Happened) (e : Happened) → 0 < length log → change_at (last log + 1) (log ++ e ∷ []) ≡ Some e
change_end log e some = at_end log e (begin (log ++ e ∷ [])) (nat_lt (begin (log ++ e ∷ [])) (last log + 1)) refl (begin_more log (e ∷ []) some)

get_within : (xs : List Happened) (k : ℕ) (e : Happened) → slice_get xs k ≡ Some e → k < length xs
get_within [] k e is = absurd (none_some e is)
get_within (x ∷ xs) zero e is = omega arith
get_within (x ∷ xs) (suc k) e is = let rest : k < length xs = get_within xs k e is in omega arith

at_within : (log : List Happened) (place : ℕ) (b : Bool) (e : Happened) → nat_lt (begin log) place ≡ b → (if b then slice_get log (place - begin log - 1) else None) ≡ Some e → place ≤ last log
at_within log place true e low is =
    let above : begin log < place = ltb-true (begin log) place low in
    let within : place - begin log - 1 < length log = get_within log (place - begin log - 1) e is in
    omega arith
at_within log place false e low is = absurd (none_some e is)

-- and lies within the history
change_within : (log : List Happened) (place : ℕ) (e : Happened) → change_at place log ≡ Some e → place ≤ last log
change_within log place e is = at_within log place (nat_lt (begin log) place) e refl is

-- ---- a row that is out under one hold all the while

-- where the layer is out under a hold behind a history, it was behind a front of it, and where no commit under the hold stands above that front, it is the same layer
abbrev Stays : List Happened → List Happened → ℕ → List ℕ → ℕ → Type 0
Stays front log doc who h =
    CommitsUpTo log h (last front) → (row (after log) doc who).hold ≡ Some h
    → ((row (after front) doc who).hold ≡ Some h) × ((row (after log) doc who).layer ≡ (row (after front) doc who).layer)

stays_itself : (log : List Happened) (doc : ℕ) (who : List ℕ) (h : ℕ) → Stays log log doc who h
stays_itself log doc who h none held = (held, refl)

hold_before : (r t : Row) (place h : ℕ) → h < place → (t.hold ≡ r.hold) ⊎ ((t.hold ≡ None) ⊎ (t.hold ≡ Some place)) → t.hold ≡ Some h → r.hold ≡ Some h
hold_before r t place h low (inl same) held = sym same ∙ held
hold_before r t place h low (inr (inl ended)) held = absurd (let f : ◌≡◌ {A = Option ℕ} None (Some h) = sym ended ∙ held in cc)
hold_before r t place h low (inr (inr new)) held = absurd (let same : place ≡ h = (let f : ◌≡◌ {A = Option ℕ} (Some place) (Some h) = sym new ∙ held in cc) in omega arith)

-- a commit under the hold at the next place stands above the front
under_none : (log front : List Happened) (e : Happened) (held : Option ℕ) (h : ℕ) → 0 < length log → last front ≤ last log → CommitsUpTo (log ++ e ∷ []) h (last front) → held ≡ Some h → IsUnder held e → ⊥
under_none log front (LayerCommitted by doc hold layer) held h some low none is under =
    let same : hold ≡ h = (let f : ◌≡◌ {A = Option ℕ} (Some hold) (Some h) = sym under ∙ is in cc) in
    let high : last log + 1 ≤ last front = none (last log + 1) by doc layer
    (change_end log (LayerCommitted by doc hold layer) some ∙ ap (λ (x : ℕ). Some (LayerCommitted by doc x layer)) same) in
    omega arith
under_none log front other held h some low none is under = absurd under

stays_more : (front log : List Happened) (e : Happened) (doc : ℕ) (who : List ℕ) (h : ℕ) → 0 < length log → last front ≤ last log → h ≤ last front
    → RowGoes (row (after log) doc who) (row (after (log ++ e ∷ [])) doc who) (last log + 1) e → Stays front log doc who h → Stays front (log ++ e ∷ []) doc who h
stays_more front log e doc who h some low high goes before none held =
    let was : (row (after log) doc who).hold ≡ Some h = hold_before (row (after log) doc who) (row (after (log ++ e ∷ [])) doc who) (last log + 1) h (omega arith) goes.hold held in
    let rest : ((row (after front) doc who).hold ≡ Some h) × ((row (after log) doc who).layer ≡ (row (after front) doc who).layer) =
    before (λ place by d layer is. none place by d layer (change_more log (e ∷ []) place (LayerCommitted by d h layer) some is)) was in
    (rest.0, by_layer was goes.layer ∙ rest.1)
  where
    by_layer : (row (after log) doc who).hold ≡ Some h → ((row (after (log ++ e ∷ [])) doc who).layer ≡ (row (after log) doc who).layer) ⊎ IsUnder (row (after log) doc who).hold e → (row (after (log ++ e ∷ [])) doc who).layer ≡ (row (after log) doc who).layer
    by_layer was (inl same) = same
    by_layer was (inr under) = absurd (under_none log front e (row (after log) doc who).hold h some low none was under)

next_goes : (log : List Happened) (caller who : List ℕ) (asked : Asked) (e : Happened) (doc : ℕ) → IsLegal log → (step (after log) caller asked).change ≡ Some e → RowGoes (row (after log) doc who) (row (after (log ++ e ∷ [])) doc who) (last log + 1) e
next_goes log caller who asked e doc legal is =
    subst (λ (s : ProjectState). RowGoes (row (after log) doc who) (row s doc who) (last log + 1) e) (sym (after_more log e))
    (subst (λ (n : ℕ). RowGoes (row (after log) doc who) (row (effect n e (after log)) doc who) (last log + 1) e)
    (sym (step_next (after log) caller asked e (after log).place is ∙ ap (λ n. n + 1) (place_last log legal)))
    (step_goes (after log) caller who asked e (last log + 1) doc is))

next_freed : (log : List Happened) (who : List ℕ) (doc : ℕ) → IsLegal log → RowGoes (row (after log) doc who) (row (after (log ++ AllFreed ∷ [])) doc who) (last log + 1) AllFreed
next_freed log who doc legal =
    subst (λ (s : ProjectState). RowGoes (row (after log) doc who) (row s doc who) (last log + 1) AllFreed) (sym (after_more log AllFreed))
    (subst (λ (n : ℕ). RowGoes (row (after log) doc who) (row (effect n AllFreed (after log)) doc who) (last log + 1) AllFreed) (ap (λ n. n + 1) (sym (place_last log legal)))
    (freeing_goes (after log) (last log + 1) doc who))

-- ---- all the changes behind a front

take_whole : (n : ℕ) (log : List Happened) → length log ≤ n → take n log ≡ log
take_whole zero [] h = refl
take_whole (suc n) [] h = refl
take_whole zero (e ∷ log) h = absurd (omega arith)
take_whole (suc n) (e ∷ log) h = ap (λ rest. e ∷ rest) (take_whole n log (omega arith))

take_front : (log more : List Happened) → take (length log) (log ++ more) ≡ log
take_front [] more = refl
take_front (e ∷ log) more = ap (λ rest. e ∷ rest) (take_front log more)

take_short : (n : ℕ) (log : List Happened) → length (take n log) ≤ length log
take_short zero log = omega arith
take_short (suc n) [] = omega arith
take_short (suc n) (e ∷ log) = let rest : length (take n log) ≤ length log = take_short n log in omega arith

take_begin : (n : ℕ) (log : List Happened) → 0 < n → begin (take n log) ≡ begin log
take_begin zero log h = absurd (omega arith)
take_begin (suc n) [] h = refl
take_begin (suc n) (e ∷ log) h = refl

stays_cut : (n : ℕ) (log : List Happened) (e : Happened) (doc : ℕ) (who : List ℕ) (h : ℕ) → 0 < length log → 0 < n → h ≤ last (take n (log ++ e ∷ []))
    → RowGoes (row (after log) doc who) (row (after (log ++ e ∷ [])) doc who) (last log + 1) e
    → (h ≤ last (take n log) → Stays (take n log) log doc who h) → Stays (take n (log ++ e ∷ [])) (log ++ e ∷ []) doc who h
stays_cut n log e doc who h some first high goes before = by_cut (cases_lt (length log) n)
  where
    by_cut : ((length log < n) ⊎ (n ≤ length log)) → Stays (take n (log ++ e ∷ [])) (log ++ e ∷ []) doc who h
    by_cut (inl past) =
        subst (λ (front : List Happened). Stays front (log ++ e ∷ []) doc who h) (sym (take_whole n (log ++ e ∷ []) (omega (arith, length-append log (e ∷ []))))) (stays_itself (log ++ e ∷ []) doc who h)
    by_cut (inr within) =
        let cut : take n (log ++ e ∷ []) ≡ take n log = take-append-le n log (e ∷ []) within in
        let low : h ≤ last (take n log) = subst (λ (xs : List Happened). h ≤ last xs) cut high in
        subst (λ (front : List Happened). Stays front (log ++ e ∷ []) doc who h) (sym cut)
        (stays_more (take n log) log e doc who h some (omega (arith, take_begin n log first, take_short n log)) low goes (before low))

front_stays : (n : ℕ) (log : List Happened) (doc : ℕ) (who : List ℕ) (h : ℕ) → IsLegal log → 0 < n → h ≤ last (take n log) → Stays (take n log) log doc who h
front_stays n _ doc who h (legal_founding conf level people is) first high = one_first n (Founded conf level people) first
  where
    one_first : (n : ℕ) (e : Happened) → 0 < n → Stays (take n (e ∷ [])) (e ∷ []) doc who h
    one_first n e first = subst (λ (front : List Happened). Stays front (e ∷ []) doc who h) (sym (take_whole n (e ∷ []) (omega arith))) (stays_itself (e ∷ []) doc who h)
front_stays n _ doc who h (legal_restored state sound) first high = one_first n (Restored state.place state) first
  where
    one_first : (n : ℕ) (e : Happened) → 0 < n → Stays (take n (e ∷ [])) (e ∷ []) doc who h
    one_first n e first = subst (λ (front : List Happened). Stays front (e ∷ []) doc who h) (sym (take_whole n (e ∷ []) (omega arith))) (stays_itself (e ∷ []) doc who h)
front_stays n _ doc who h (legal_step log caller asked e l typed is) first high =
    stays_cut n log e doc who h (legal_some log l) first high (next_goes log caller who asked e doc l is) (λ low. front_stays n log doc who h l first low)
front_stays n _ doc who h (legal_freeing log l is) first high =
    stays_cut n log AllFreed doc who h (legal_some log l) first high (next_freed log who doc l) (λ low. front_stays n log doc who h l first low)

-- a layer that is out under one hold all the while changes only by commits under it
pub row_stays : (seen more : List Happened) (doc hold : ℕ) (who : List ℕ) → IsLegal seen → IsLegal (seen ++ more) → hold ≤ last seen → CommitsUpTo (seen ++ more) hold (last seen)
    → (row (after (seen ++ more)) doc who).hold ≡ Some hold
    → ((row (after seen) doc who).hold ≡ Some hold) × ((row (after (seen ++ more)) doc who).layer ≡ (row (after seen) doc who).layer)
row_stays seen more doc hold who legal all low =
    subst (λ (front : List Happened). Stays front (seen ++ more) doc who hold) (take_front seen more)
    (front_stays (length seen) (seen ++ more) doc who hold all (legal_some seen legal) (subst (λ (front : List Happened). hold ≤ last front) (sym (take_front seen more)) low))

-- ---- what no later change touches

-- the name and the text of a document
abbrev naming : Document → List ℕ × List ℕ
naming d = (d.name, d.text)

-- a project goes on: its configuration stays, and so do its documents, each at its number with its name and its text
record GoesOn (s t : ProjectState) : Type 0 where
  conf : t.conf ≡ s.conf
  others : List (List ℕ × List ℕ)
  named : map naming t.documents ≡ map naming s.documents ++ others

named_alike : (s t : ProjectState) → t.conf ≡ s.conf → map naming t.documents ≡ map naming s.documents → GoesOn s t
named_alike s t conf same = record { conf = conf; others = []; named = same ∙ sym (append-nil (map naming s.documents)) }

goes_through : (s t u : ProjectState) → GoesOn s t → GoesOn t u → GoesOn s u
goes_through s t u first second = record {
  conf = second.conf ∙ first.conf;
  others = first.others ++ second.others;
  named = second.named ∙ (ap (λ (xs : List (List ℕ × List ℕ)). xs ++ second.others) first.named ∙ append_assoc (map naming s.documents) first.others second.others);
}

set_names : (ds : List Document) (n : ℕ) (i : ℕ) (r : Row) → map naming (set ds n (with_row i r (get_or ds n no_document))) ≡ map naming ds
set_names [] n i r = refl
set_names (d ∷ ds) zero i r = refl
set_names (d ∷ ds) (suc n) i r = ap (λ (xs : List (List ℕ × List ℕ)). naming d ∷ xs) (set_names ds n i r)

freed_names : (ds : List Document) → map naming (map freed ds) ≡ map naming ds
freed_names [] = refl
freed_names (d ∷ ds) = ap (λ (xs : List (List ℕ × List ℕ)). naming d ∷ xs) (freed_names ds)

added_names : (ds : List Document) (d : Document) → map naming (ds ++ d ∷ []) ≡ map naming ds ++ naming d ∷ []
added_names [] d = refl
added_names (x ∷ ds) d = ap (λ (xs : List (List ℕ × List ℕ)). naming x ∷ xs) (added_names ds d)

row_goes_on : (s : ProjectState) (n : ℕ) (by : List ℕ) (e : Happened) (place : ℕ) (changed : Row → Row) → (effect place e s).conf ≡ s.conf → (effect place e s).documents ≡ (on_row s n by changed).documents → GoesOn s (effect place e s)
row_goes_on s n by e place changed conf is = named_alike s (effect place e s) conf (ap (map naming) is ∙ set_names s.documents n (rater_of s by) (changed (row s n by)))

change_goes_on : (s : ProjectState) (caller : List ℕ) (asked : Asked) (e : Happened) (place : ℕ) → change s caller asked ≡ Some e → GoesOn s (effect place e s)
change_goes_on s caller ReadConf e place is = absurd (none_some e is)
change_goes_on s caller ListDocs e place is = absurd (none_some e is)
change_goes_on s caller (ReadText name) e place is = absurd (none_some e is)
change_goes_on s caller (ReadLayer name whose) e place is = absurd (none_some e is)
change_goes_on s caller (TakeSnapshot number) e place is = absurd (none_some e is)
change_goes_on s caller ReadPairs e place is = absurd (none_some e is)
change_goes_on s caller ReadAlpha e place is = absurd (none_some e is)
change_goes_on s caller (ReadReport report) e place is = absurd (none_some e is)
change_goes_on s caller (AddText name text) e place is =
    subst (λ (x : Happened). GoesOn s (effect place x s)) (some_same (TextAdded caller name text) e is)
    (record { conf = refl; others = naming (new_document s name text) ∷ []; named = added_names s.documents (new_document s name text) })
change_goes_on s caller (Checkout name) e place is =
    subst (λ (x : Happened). GoesOn s (effect place x s)) (some_same (CheckedOut caller (number_of s name)) e is)
    (row_goes_on s (number_of s name) caller (CheckedOut caller (number_of s name)) place (under_hold (Some place)) refl refl)
change_goes_on s caller (TakeOver name) e place is =
    subst (λ (x : Happened). GoesOn s (effect place x s)) (some_same (TakenOver caller (number_of s name)) e is)
    (row_goes_on s (number_of s name) caller (TakenOver caller (number_of s name)) place (under_hold (Some place)) refl refl)
change_goes_on s caller (Commit name hold layer) e place is =
    subst (λ (x : Happened). GoesOn s (effect place x s)) (some_same (LayerCommitted caller (number_of s name) hold layer) e is)
    (row_goes_on s (number_of s name) caller (LayerCommitted caller (number_of s name) hold layer) place (with_commit layer) refl refl)
change_goes_on s caller (Park name hold done undone) e place is =
    subst (λ (x : Happened). GoesOn s (effect place x s)) (some_same (LayerParked caller (number_of s name) hold done undone) e is)
    (row_goes_on s (number_of s name) caller (LayerParked caller (number_of s name) hold done undone) place (with_draft done undone) refl refl)
change_goes_on s caller (Finish name) e place is =
    subst (λ (x : Happened). GoesOn s (effect place x s)) (some_same (LayerFinished caller (number_of s name)) e is)
    (row_goes_on s (number_of s name) caller (LayerFinished caller (number_of s name)) place (with_finished true) refl refl)
change_goes_on s caller (Reopen name whose) e place is =
    subst (λ (x : Happened). GoesOn s (effect place x s)) (some_same (LayerReopened caller (number_of s name) whose) e is)
    (row_goes_on s (number_of s name) whose (LayerReopened caller (number_of s name) whose) place (with_finished false) refl refl)
change_goes_on s caller (Ignore name whose) e place is =
    subst (λ (x : Happened). GoesOn s (effect place x s)) (some_same (LayerIgnored caller (number_of s name) whose) e is)
    (row_goes_on s (number_of s name) whose (LayerIgnored caller (number_of s name) whose) place (with_ignored true) refl refl)
change_goes_on s caller (Readmit name whose) e place is =
    subst (λ (x : Happened). GoesOn s (effect place x s)) (some_same (LayerReadmitted caller (number_of s name) whose) e is)
    (row_goes_on s (number_of s name) whose (LayerReadmitted caller (number_of s name) whose) place (with_ignored false) refl refl)
change_goes_on s caller (Snap name) e place is = subst (λ (x : Happened). GoesOn s (effect place x s)) (some_same _ e is) (named_alike s _ refl refl)
change_goes_on s caller (Decide number holder id verdict) e place is = subst (λ (x : Happened). GoesOn s (effect place x s)) (some_same _ e is) (named_alike s _ refl refl)
change_goes_on s caller (Undecide number holder id) e place is = subst (λ (x : Happened). GoesOn s (effect place x s)) (some_same _ e is) (named_alike s _ refl refl)

cut_goes_on : (n : ℕ) (log : List Happened) (e : Happened) → GoesOn (after log) (effect (place_behind e (after log).place) e (after log)) → GoesOn (after (take n log)) (after log) → GoesOn (after (take n (log ++ e ∷ []))) (after (log ++ e ∷ []))
cut_goes_on n log e step before = by_cut (cases_lt (length log) n)
  where
    by_cut : ((length log < n) ⊎ (n ≤ length log)) → GoesOn (after (take n (log ++ e ∷ []))) (after (log ++ e ∷ []))
    by_cut (inl past) =
        subst (λ (front : List Happened). GoesOn (after front) (after (log ++ e ∷ []))) (sym (take_whole n (log ++ e ∷ []) (omega (arith, length-append log (e ∷ [])))))
        (named_alike (after (log ++ e ∷ [])) (after (log ++ e ∷ [])) refl refl)
    by_cut (inr within) =
        subst (λ (front : List Happened). GoesOn (after front) (after (log ++ e ∷ []))) (sym (take-append-le n log (e ∷ []) within))
        (goes_through (after (take n log)) (after log) (after (log ++ e ∷ [])) before (subst (GoesOn (after log)) (sym (after_more log e)) step))

front_goes_on : (n : ℕ) (log : List Happened) → IsLegal log → 0 < n → GoesOn (after (take n log)) (after log)
front_goes_on n _ (legal_founding conf level people is) first = subst (λ (front : List Happened). GoesOn (after front) (after (Founded conf level people ∷ []))) (sym (take_whole n (Founded conf level people ∷ []) (omega arith))) (named_alike _ _ refl refl)
front_goes_on n _ (legal_restored state sound) first = subst (λ (front : List Happened). GoesOn (after front) (after (Restored state.place state ∷ []))) (sym (take_whole n (Restored state.place state ∷ []) (omega arith))) (named_alike _ _ refl refl)
front_goes_on n _ (legal_step log caller asked e l typed is) first =
    cut_goes_on n log e (change_goes_on (after log) caller asked e (place_behind e (after log).place) (granted (after log) caller asked e is).made) (front_goes_on n log l first)
front_goes_on n _ (legal_freeing log l is) first =
    cut_goes_on n log AllFreed (named_alike (after log) (effect (place_behind AllFreed (after log).place) AllFreed (after log)) refl (freed_names (after log).documents)) (front_goes_on n log l first)

history_goes_on : (seen more : List Happened) → IsLegal seen → IsLegal (seen ++ more) → GoesOn (after seen) (after (seen ++ more))
history_goes_on seen more legal all =
    subst (λ (front : List Happened). GoesOn (after front) (after (seen ++ more))) (take_front seen more) (front_goes_on (length seen) (seen ++ more) all (legal_some seen legal))

-- ---- the document of a name

-- a document of this name is there too, at the same number, with the same text
record FoundAlike (name : List ℕ) (ds es : List Document) : Type 0 where
  there : list_any (λ (d : Document). bytes_eq d.name name) es ≡ true
  number : position_or_len (λ (d : Document). bytes_eq d.name name) es ≡ position_or_len (λ (d : Document). bytes_eq d.name name) ds
  text : (get_or es (position_or_len (λ (d : Document). bytes_eq d.name name) ds) no_document).text ≡ (get_or ds (position_or_len (λ (d : Document). bytes_eq d.name name) ds) no_document).text

found_first : (name : List ℕ) (d x : Document) (ds es : List Document) (b : Bool) → bytes_eq d.name name ≡ b → x.name ≡ d.name → x.text ≡ d.text → list_any (λ (y : Document). bytes_eq y.name name) (d ∷ ds) ≡ true
    → (list_any (λ (y : Document). bytes_eq y.name name) ds ≡ true → FoundAlike name ds es) → FoundAlike name (d ∷ ds) (x ∷ es)
found_first name d x ds es true is named text any rest = record {
  there = rw (named, is) refl;
  number = rw (named, is) refl;
  text = rw is text;
}
found_first name d x ds es false is named text any rest =
    let more : FoundAlike name ds es = rest (rw is at any) in
    let next : 1 + position_or_len (λ (y : Document). bytes_eq y.name name) ds ≡ suc (position_or_len (λ (y : Document). bytes_eq y.name name) ds) = omega arith in
    record {
      there = rw (named, is) more.there;
      number = rw (named, is) (ap (λ (n : ℕ). 1 + n) more.number);
      text = rw (is, next) more.text;
    }

found_on : (name : List ℕ) (ds es : List Document) (others : List (List ℕ × List ℕ)) → map naming es ≡ map naming ds ++ others → list_any (λ (d : Document). bytes_eq d.name name) ds ≡ true → FoundAlike name ds es
found_on name [] es others e any = no_true any
found_on name (d ∷ ds) [] others e any = absurd (let f : ◌≡◌ {A = List (List ℕ × List ℕ)} [] (naming d ∷ (map naming ds ++ others)) = e in cc)
found_on name (d ∷ ds) (x ∷ es) others e any =
    let first : naming x ≡ naming d = first_same (naming x) (naming d) (map naming es) (map naming ds ++ others) e in
    found_first name d x ds es (bytes_eq d.name name) refl (ap (λ (p : List ℕ × List ℕ). p.0) first) (ap (λ (p : List ℕ × List ℕ). p.1) first) any
    (λ there. found_on name ds es others (rest_same (naming x) (naming d) (map naming es) (map naming ds ++ others) e) there)
  where
    first_same : (a b : List ℕ × List ℕ) (xs ys : List (List ℕ × List ℕ)) → a ∷ xs ≡ b ∷ ys → a ≡ b
    first_same a b xs ys same = cc

    rest_same : (a b : List ℕ × List ℕ) (xs ys : List (List ℕ × List ℕ)) → a ∷ xs ≡ b ∷ ys → xs ≡ ys
    rest_same a b xs ys same = cc

-- ---- a desk that is open

taken_more : (was is : Option Happened) (n m : ℕ) (who : List ℕ) → ((e : Happened) → was ≡ Some e → is ≡ Some e) → m ≡ n → IsSomeAnd was (TakesOut who n) → IsSomeAnd is (TakesOut who m)
taken_more None is n m who keeps same taken = absurd taken
taken_more (Some e) is n m who keeps same taken =
    subst (λ (o : Option Happened). IsSomeAnd o (TakesOut who m)) (sym (keeps e refl)) (subst (λ (k : ℕ). TakesOut who k e) (sym same) taken)

taken_within : (seen : List Happened) (hold n : ℕ) (who : List ℕ) (o : Option Happened) → change_at hold seen ≡ o → IsSomeAnd o (TakesOut who n) → hold ≤ last seen
taken_within seen hold n who None is taken = absurd taken
taken_within seen hold n who (Some e) is taken = change_within seen hold e is

own_within : (seen : List Happened) (mine : List ℕ) (place : ℕ) → All (LiesWithin seen) mine → Contains mine place → place ≤ last seen
own_within seen mine place within (k, low, is) = subst (λ (p : ℕ). p ≤ last seen) is (within k place low).1

-- what is told of the commits under a hold between two histories: one that is one's own now stood in the first, and was one's own there
abbrev IsOld : List Happened → List Happened → List ℕ → List ℕ → ℕ → Type 0
IsOld seen now mine mine_now hold =
    (place : ℕ) (by : List ℕ) (doc : ℕ) (layer : Annotations) → change_at place now ≡ Some (LayerCommitted by doc hold layer) → Contains mine_now place → (place ≤ last seen) × Contains mine place

goes_open : (seen more : List Happened) (mine mine_now : List ℕ) (held : Holding) → IsLegal seen → IsLegal (seen ++ more) → IsOld seen (seen ++ more) mine mine_now held.hold → IsOpenOn seen mine held → IsOpenOn (seen ++ more) mine_now held
goes_open seen more mine mine_now held legal all old open_on =
    let some : 0 < length seen = legal_some seen legal in
    let on : GoesOn (after seen) (after (seen ++ more)) = history_goes_on seen more legal all in
    let found : FoundAlike held.doc (after seen).documents (after (seen ++ more)).documents = found_on held.doc (after seen).documents (after (seen ++ more)).documents on.others on.named open_on.there in
    let low : held.hold ≤ last seen = taken_within seen held.hold (number_of (after seen) held.doc) held.who (change_at held.hold seen) refl open_on.taken in
    record {
      there = found.there;
      taken = taken_more (change_at held.hold seen) (change_at held.hold (seen ++ more)) (number_of (after seen) held.doc) (number_of (after (seen ++ more)) held.doc) held.who
          (λ e is. change_more seen more held.hold e some is) found.number open_on.taken;
      text = open_on.text ∙ sym (ap (λ (n : ℕ). (document (after (seen ++ more)) n).text) found.number ∙ found.text);
      conf = open_on.conf ∙ sym on.conf;
      base = λ out owns.
          let here : (row (after (seen ++ more)) (number_of (after seen) held.doc) held.who).hold ≡ Some held.hold = ap (λ (n : ℕ). (row (after (seen ++ more)) n held.who).hold) (sym found.number) ∙ out in
          let was : ((row_in (after seen) held.doc held.who).hold ≡ Some held.hold) × ((row (after (seen ++ more)) (number_of (after seen) held.doc) held.who).layer ≡ (row_in (after seen) held.doc held.who).layer) =
          row_stays seen more (number_of (after seen) held.doc) held.hold held.who legal all low
          (λ place by doc layer is. (old place by doc layer is (owns place by doc layer is)).0) here in
          open_on.base was.0 (λ place by doc layer is. (old place by doc layer (change_more seen more place (LayerCommitted by doc held.hold layer) some is) (owns place by doc layer (change_more seen more place (LayerCommitted by doc held.hold layer) some is))).1)
          ∙ sym (ap (λ (n : ℕ). (row (after (seen ++ more)) n held.who).layer) found.number ∙ was.1);
    }

-- what others do leaves it open
pub stays_open : (seen more : List Happened) (mine : List ℕ) (held : Holding) → IsLegal seen → IsLegal (seen ++ more) → All (LiesWithin seen) mine → IsOpenOn seen mine held → IsOpenOn (seen ++ more) mine held
stays_open seen more mine held legal all within open_on =
    goes_open seen more mine mine held legal all (λ place by doc layer is own. (own_within seen mine place within own, own)) open_on

own_before : (mine : List ℕ) (p place : ℕ) → Contains (mine ++ p ∷ []) place → place ≢ p → Contains mine place
own_before mine p place (k, low, is) other = by_place (cases_lt k (length mine))
  where
    by_place : ((k < length mine) ⊎ (length mine ≤ k)) → Contains mine place
    by_place (inl within) = (k, within, sym (get_or_append_left mine (p ∷ []) place k within) ∙ is)
    by_place (inr past) =
        let here : k ≡ length mine = omega (arith, low, length-append mine (p ∷ [])) in
        absurd (other (sym is ∙ (ap (λ (n : ℕ). get_or (mine ++ p ∷ []) n place) here ∙ last_of mine)))
      where
        last_of : (xs : List ℕ) → get_or (xs ++ p ∷ []) (length xs) place ≡ p
        last_of [] = refl
        last_of (x ∷ xs) = last_of xs

-- and so does a change of one's own that is no commit under its hold
pub own_stays_open : (log : List Happened) (e : Happened) (mine : List ℕ) (held : Holding) → IsLegal log → IsLegal (log ++ e ∷ []) → (IsUnder (Some held.hold) e → ⊥) → IsOpenOn log mine held → IsOpenOn (log ++ e ∷ []) (mine ++ (last log + 1) ∷ []) held
own_stays_open log e mine held legal all none open_on = goes_open log (e ∷ []) mine (mine ++ (last log + 1) ∷ []) held legal all old open_on
  where
    some : 0 < length log
    some = legal_some log legal

    under : (by : List ℕ) (doc : ℕ) (layer : Annotations) (place : ℕ) → change_at place (log ++ e ∷ []) ≡ Some (LayerCommitted by doc held.hold layer) → place ≡ last log + 1 → ⊥
    under by doc layer place is here =
        none (subst (IsUnder (Some held.hold)) (some_same (LayerCommitted by doc held.hold layer) e (sym is ∙ (ap (λ (p : ℕ). change_at p (log ++ e ∷ [])) here ∙ change_end log e some))) refl)

    old : IsOld log (log ++ e ∷ []) mine (mine ++ (last log + 1) ∷ []) held.hold
    old place by doc layer is own =
        let other : place ≢ last log + 1 = under by doc layer place is in
        let most : place ≤ last (log ++ e ∷ []) = change_within (log ++ e ∷ []) place (LayerCommitted by doc held.hold layer) is in
        (omega (arith, most, other, begin_more log (e ∷ []) some, length-append log (e ∷ [])), own_before mine (last log + 1) place own other)

-- ---- a desk that is handed out

reply_bounded : (s : ProjectState) (asked : Asked) (answer : Answered) (h e : Happened) (long : Bool) (r : BookRefusal)
    → (if◌then◌else◌ {A = Step} long (refused s asked r) (record { answer = answer; change = Some h })).change ≡ Some e
    → (if◌then◌else◌ {A = Step} long (refused s asked r) (record { answer = answer; change = Some h })).answer ≡ answer
reply_bounded s asked answer h e true r is = absurd (none_some e is)
reply_bounded s asked answer h e false r is = refl

reply_unless : (s : ProjectState) (asked : Asked) (o : Option BookRefusal) (answer : Answered) (c : Option Happened) (e : Happened) → (unless s asked o answer c).change ≡ Some e → (unless s asked o answer c).answer ≡ answer
reply_unless s asked (Some r) answer c e is = absurd (none_some e is)
reply_unless s asked None answer None e is = absurd (none_some e is)
reply_unless s asked None answer (Some h) e is = reply_bounded s asked answer h e (nat_lt 16777216 (size_in s h)) (no.EntryTooLong (size_in s h)) is

-- a step that makes something happen answers what is asked
pub step_reply : (s : ProjectState) (caller : List ℕ) (asked : Asked) (e : Happened) → (step s caller asked).change ≡ Some e → (step s caller asked).answer ≡ reply s caller asked
step_reply s caller asked e is = reply_unless s asked (refusal s caller asked) (reply s caller asked) (change s caller asked) e is

out_same : (a b : Out) → HandedOut a ≡ HandedOut b → a ≡ b
out_same a b is = cc

handed_by : (log : List Happened) (mine : List ℕ) (caller name : List ℕ) (asked : Asked) (out : Out) (e : Happened)
    → IsLegal log → is_there (after log) name ≡ true → TakesOut caller (number_of (after log) name) e → (step (after log) caller asked).change ≡ Some e
    → out ≡ out_of (after log) (document (after log) (number_of (after log) name)) (row_in (after log) name caller) → IsOpenOn (log ++ e ∷ []) mine (handed caller name out)
handed_by log mine caller name asked out e legal there takes is same =
    let on : GoesOn (after log) (after (log ++ e ∷ [])) =
    subst (GoesOn (after log)) (sym (after_more log e)) (change_goes_on (after log) caller asked e (place_behind e (after log).place) (granted (after log) caller asked e is).made) in
    let found : FoundAlike name (after log).documents (after (log ++ e ∷ [])).documents = found_on name (after log).documents (after (log ++ e ∷ [])).documents on.others on.named there in
    let place : out.hold ≡ last log + 1 = ap (λ (o : Out). o.hold) same ∙ ap (λ (n : ℕ). n + 1) (place_last log legal) in
    record {
      there = found.there;
      taken =
          subst (λ (o : Option Happened). IsSomeAnd o (TakesOut caller (number_of (after (log ++ e ∷ [])) name)))
          (sym (ap (λ (n : ℕ). change_at n (log ++ e ∷ [])) place ∙ change_end log e (legal_some log legal)))
          (subst (λ (n : ℕ). TakesOut caller n e) (sym found.number) takes);
      text = ap (λ (o : Out). o.text) same ∙ sym (ap (λ (n : ℕ). (document (after (log ++ e ∷ [])) n).text) found.number ∙ found.text);
      conf = ap (λ (o : Out). o.conf) same ∙ sym on.conf;
      base = λ held owns.
          ap (λ (o : Out). o.base) same
          ∙ sym (ap (λ (n : ℕ). (row (after (log ++ e ∷ [])) n caller).layer) found.number
          ∙ by_layer takes (next_goes log caller caller asked e (number_of (after log) name) legal is).layer);
    }
  where
    by_layer : TakesOut caller (number_of (after log) name) e → ((row (after (log ++ e ∷ [])) (number_of (after log) name) caller).layer ≡ (row_in (after log) name caller).layer) ⊎ IsUnder (row_in (after log) name caller).hold e
        → (row (after (log ++ e ∷ [])) (number_of (after log) name) caller).layer ≡ (row_in (after log) name caller).layer
    by_layer takes (inl same) = same
    by_layer (inl checkout) (inr under) = absurd (subst (IsUnder (row_in (after log) name caller).hold) checkout under)
    by_layer (inr takeover) (inr under) = absurd (subst (IsUnder (row_in (after log) name caller).hold) takeover under)

-- a desk is open on the row that is handed out
pub checkout_open : (log : List Happened) (mine : List ℕ) (caller name : List ℕ) (out : Out) (e : Happened) → IsLegal log
    → HandedOut out ≡ (step (after log) caller (Checkout name)).answer → (step (after log) caller (Checkout name)).change ≡ Some e → IsOpenOn (log ++ e ∷ []) mine (handed caller name out)
checkout_open log mine caller name out e legal answer is =
    handed_by log mine caller name (Checkout name) out e legal
    (unmet (is_there (after log) name) no.NoDocument (or_first (there (after log) name) _ (tests_free (after log) caller (Checkout name) (granted (after log) caller (Checkout name) e is).free)))
    (inl (sym (some_same (CheckedOut caller (number_of (after log) name)) e (granted (after log) caller (Checkout name) e is).made))) is
    (out_same out _ (answer ∙ step_reply (after log) caller (Checkout name) e is))

pub takeover_open : (log : List Happened) (mine : List ℕ) (caller name : List ℕ) (out : Out) (e : Happened) → IsLegal log
    → HandedOut out ≡ (step (after log) caller (TakeOver name)).answer → (step (after log) caller (TakeOver name)).change ≡ Some e → IsOpenOn (log ++ e ∷ []) mine (handed caller name out)
takeover_open log mine caller name out e legal answer is =
    handed_by log mine caller name (TakeOver name) out e legal
    (unmet (is_there (after log) name) no.NoDocument (or_first (there (after log) name) _ (tests_free (after log) caller (TakeOver name) (granted (after log) caller (TakeOver name) e is).free)))
    (inr (sym (some_same (TakenOver caller (number_of (after log) name)) e (granted (after log) caller (TakeOver name) e is).made))) is
    (out_same out _ (answer ∙ step_reply (after log) caller (TakeOver name) e is))

-- ---- a layer that is committed

no_hold : {X : Type 0} (h : ℕ) → None ≡ Some h → X
no_hold h e = absurd (let f : ◌≡◌ {A = Option ℕ} None (Some h) = e in cc)

-- a row that is out is there, so it can be changed
own_row : (ds : List Document) (n i h : ℕ) (new : Row) → (get_or (get_or ds n no_document).rows i blank_row).hold ≡ Some h
    → get_or (get_or (set ds n (with_row i new (get_or ds n no_document))) n no_document).rows i blank_row ≡ new
own_row ds n i h new out = by_document (cases_lt n (length ds))
  where
    d : Document
    d = get_or ds n no_document

    by_row : ((i < length d.rows) ⊎ (length d.rows ≤ i)) → get_or (set d.rows i new) i blank_row ≡ new
    by_row (inl within) = get_or-set_at d.rows i i new blank_row refl within
    by_row (inr past) = no_hold h (sym (ap (λ (r : Row). r.hold) (get_or_past d.rows i blank_row past)) ∙ out)

    by_document : ((n < length ds) ⊎ (length ds ≤ n)) → get_or (get_or (set ds n (with_row i new d)) n no_document).rows i blank_row ≡ new
    by_document (inl within) = ap (λ (x : Document). get_or x.rows i blank_row) (get_or-set_at ds n n (with_row i new d) no_document refl within) ∙ by_row (cases_lt i (length d.rows))
    by_document (inr past) = no_hold h (sym (ap (λ (x : Document). (get_or x.rows i blank_row).hold) (get_or_past ds n no_document past)) ∙ out)

committed_row : (s : ProjectState) (place : ℕ) (caller name : List ℕ) (hold : ℕ) (layer : Annotations) (e : Happened) → refusal s caller (Commit name hold layer) ≡ None → change s caller (Commit name hold layer) ≡ Some e
    → (row (effect place e s) (number_of s name) caller).layer ≡ layer
committed_row s place caller name hold layer e free is =
    subst (λ (x : Happened). (row (effect place x s) (number_of s name) caller).layer ≡ layer) (some_same (LayerCommitted caller (number_of s name) hold layer) e is)
    (ap (λ (r : Row). r.layer) (own_row s.documents (number_of s name) (rater_of s caller) hold (with_commit layer (row s (number_of s name) caller)) (commit_held s caller name hold layer free)))

-- a desk whose layer was committed stands on it
pub committed_open : (log : List Happened) (mine mine_now : List ℕ) (held : Holding) (desk : DeskState) (layer : Annotations) (e : Happened)
    → IsLegal log → (step (after log) held.who (Commit held.doc held.hold layer)).change ≡ Some e
    → desk.conf ≡ held.desk.conf → desk.text ≡ held.desk.text → desk.base ≡ layer → IsOpenOn log mine held → IsOpenOn (log ++ e ∷ []) mine_now (with_desk held desk)
committed_open log mine mine_now held desk layer e legal is conf text base open_on =
    let some : 0 < length log = legal_some log legal in
    let free : refusal (after log) held.who (Commit held.doc held.hold layer) ≡ None = (granted (after log) held.who (Commit held.doc held.hold layer) e is).free in
    let made : change (after log) held.who (Commit held.doc held.hold layer) ≡ Some e = (granted (after log) held.who (Commit held.doc held.hold layer) e is).made in
    let on : GoesOn (after log) (after (log ++ e ∷ [])) =
    subst (GoesOn (after log)) (sym (after_more log e)) (change_goes_on (after log) held.who (Commit held.doc held.hold layer) e (place_behind e (after log).place) made) in
    let found : FoundAlike held.doc (after log).documents (after (log ++ e ∷ [])).documents = found_on held.doc (after log).documents (after (log ++ e ∷ [])).documents on.others on.named open_on.there in
    record {
      there = found.there;
      taken = taken_more (change_at held.hold log) (change_at held.hold (log ++ e ∷ [])) (number_of (after log) held.doc) (number_of (after (log ++ e ∷ [])) held.doc) held.who
          (λ x at. change_more log (e ∷ []) held.hold x some at) found.number open_on.taken;
      text = text ∙ (open_on.text ∙ sym (ap (λ (n : ℕ). (document (after (log ++ e ∷ [])) n).text) found.number ∙ found.text));
      conf = conf ∙ (open_on.conf ∙ sym on.conf);
      base = λ out owns.
          base
          ∙ sym (ap (λ (n : ℕ). (row (after (log ++ e ∷ [])) n held.who).layer) found.number
          ∙ (ap (λ (s : ProjectState). (row s (number_of (after log) held.doc) held.who).layer) (after_more log e)
          ∙ committed_row (after log) (place_behind e (after log).place) held.who held.doc held.hold layer e free made));
    }
