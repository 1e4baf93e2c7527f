-- The verdicts of the state behind a history are accepted.
use Rattle.std.proofs.Common.{◌≡◌, ℕ, ◌+◌, ◌-◌, ◌<◌, ◌≤◌, true, false, List, [], ◌∷◌, ◌++◌, length, map, set, get_or, bytes_eq, Option, Some, None, option_map, refl, sym, ◌∙◌, ap, subst, arith, inl, inr, length-append}
use Rattle.std.specs.List.{All}
use Rattle.std.specs.Option.{option_or}
use Rattle.std.proofs.lemmas.List.{set_past, get_or_append_left, get_or-map}
use Rattle.std.proofs.lemmas.List.Elements.{All-push, All-set}
use Rattle.std.proofs.lemmas.Bool.{cases_lt}
use Rattle.conf_model.specs.Configurations.{Configuration}
use Rattle.unanimous_merge.specs.Readings.{readings}
use Rattle.unanimous_merge.specs.declared.item.ItemId.{ItemId}
use Rattle.curator_decisions.specs.declared.decision_fault.DecisionFault.{DecisionFault}
use Rattle.curator_decisions.specs.DecisionFaults.{decide_fault, decision_fault, undecide_fault}
use Rattle.curator_decisions.specs.DecidedLaws.{AcceptedWithVerdict, AcceptedWithoutVerdict}
use Rattle.curator_decisions.specs.Undecided.{UndecidedLayersAreAccepted}
use Rattle.project_machine.specs.declared.book_refusal.BookRefusal.{BookRefusal}
use Rattle.project_machine.specs.declared.book_refusal.BookRefusal.TheVariants as no
use Rattle.project_machine.specs.ProjectState.{Row, Document, Snapshot, ProjectState, document, no_document, no_snapshot, number_of, finished_rows, snapshot, text_of, item_in}
use Rattle.project_machine.specs.Requests.{Asked, ReadConf, ListDocs, ReadText, AddText, Checkout, TakeOver, Commit, Park, Finish, ReadLayer, Reopen, Ignore, Readmit, Snap, TakeSnapshot, Decide, Undecide, ReadPairs, ReadAlpha, ReadReport, Happened, TextAdded, CheckedOut, TakenOver, LayerCommitted, LayerParked, LayerFinished, LayerReopened, LayerIgnored, LayerReadmitted, SnapshotTaken, ItemDecided, ItemUndecided, AllFreed}
use Rattle.project_machine.specs.Machine.{decidable, holds, step, taken, undecidable}
use Rattle.project_machine.specs.History.{after, effect, freed, new_snapshot, on_row, on_snapshot, place_behind, under_hold, with_commit, with_decision, with_draft, with_finished, with_ignored, without_decision}
use Rattle.project_machine.specs.Legal.{AreAccepted, IsAccepted, IsKept, IsLegal, IsSnapshotKept, legal_founding, legal_restored, legal_step, legal_freeing}
use Rattle.project_machine.proofs.HistoryLemmas.{IsGranted, after_more, granted, step_next}
use Rattle.project_machine.proofs.RowLemmas.{Flawless, or_first, or_second}
use Rattle.project_machine.proofs.KeptLemmas.{any_within, same_text, tests_free}
use Rattle.project_machine.proofs.SnapshotLemmas.{snap_enough, snap_kept, snap_there}
use Rattle.project_machine.proofs.LegalLemmas.{legal_kept, none_some, some_same}

module _ (decide : AcceptedWithVerdict) (undecide : AcceptedWithoutVerdict) (undecided : UndecidedLayersAreAccepted) where
  -- ---- where the snapshots stay

  -- a snapshot is accepted where its document has the same text
  text_stays : (s t : ProjectState) (shot : Snapshot) → t.conf ≡ s.conf → (document t shot.doc).text ≡ (document s shot.doc).text → IsAccepted s shot → IsAccepted t shot
  text_stays s t shot conf text is =
      ap (λ (c : Configuration). decision_fault c (length (text_of t shot)) (readings shot.holders) shot.verdicts) conf
      ∙ (ap (λ (x : List ℕ). decision_fault s.conf (length x) (readings shot.holders) shot.verdicts) text ∙ is)

  all_stay : (s t : ProjectState) → IsKept s → t.conf ≡ s.conf → t.snapshots ≡ s.snapshots → ((doc : ℕ) → doc < length s.documents → (document t doc).text ≡ (document s doc).text) → AreAccepted s → AreAccepted t
  all_stay s t k conf same texts are =
      subst (All (IsAccepted t)) (sym same) (λ i d inside. text_stays s t (get_or s.snapshots i d) conf (texts (get_or s.snapshots i d).doc (k.snapshots i d inside).doc) (are i d inside))

  row_stays : (s : ProjectState) (doc place : ℕ) (who : List ℕ) (changed : Row → Row) → IsKept s → AreAccepted s → AreAccepted (record (on_row s doc who changed) { place = place })
  row_stays s doc place who changed k are = all_stay s (record (on_row s doc who changed) { place = place }) k refl refl (λ n within. same_text s doc n who changed) are

  added_text : (s : ProjectState) (new : Document) (doc : ℕ) → doc < length s.documents → (get_or (s.documents ++ new ∷ []) doc no_document).text ≡ (document s doc).text
  added_text s new doc within = ap (λ (d : Document). d.text) (get_or_append_left s.documents (new ∷ []) no_document doc within)

  freed_text : (s : ProjectState) (doc : ℕ) → doc < length s.documents → (get_or (map freed s.documents) doc no_document).text ≡ (document s doc).text
  freed_text s doc within = ap (λ (d : Document). d.text) (get_or-map freed s.documents doc no_document no_document within)

  -- ---- a snapshot that is taken

  new_accepted : (s : ProjectState) (by : List ℕ) (doc : ℕ) → IsKept s → doc < length s.documents → 2 ≤ length (finished_rows s doc) → IsAccepted s (new_snapshot s doc)
  new_accepted s by doc k within two =
      let t : ProjectState = effect (s.place + 1) (SnapshotTaken by doc) s in
      let here : length s.snapshots < length (s.snapshots ++ new_snapshot s doc ∷ []) = omega (arith, length-append s.snapshots (new_snapshot s doc ∷ [])) in
      let kept : IsSnapshotKept t (get_or t.snapshots (length s.snapshots) no_snapshot) = (snap_kept s by doc (s.place + 1) (omega arith) k within two).snapshots (length s.snapshots) no_snapshot here in
      let new : IsSnapshotKept t (new_snapshot s doc) = subst (IsSnapshotKept t) (last_is s.snapshots (new_snapshot s doc)) kept in
      undecided s.conf (length (document s doc).text) (finished_rows s doc) (omega arith) (λ i d inside. (new.layers i d inside).typed.kept) (λ i d inside. (new.layers i d inside).obeys)
    where
      last_is : (shots : List Snapshot) (shot : Snapshot) → get_or (shots ++ shot ∷ []) (length shots) no_snapshot ≡ shot
      last_is [] shot = refl
      last_is (x ∷ shots) shot = last_is shots shot

  -- ---- a decision

  decided_accepted : (s : ProjectState) (number place : ℕ) (changed : Snapshot → Snapshot) → AreAccepted s → (IsAccepted s (snapshot s number) → IsAccepted s (changed (snapshot s number)))
      → AreAccepted (record (on_snapshot s number changed) { place = place })
  decided_accepted s number place changed are keeps =
      elim (cases_lt (number - 1) (length s.snapshots)) as (λ _. All (IsAccepted s) (set s.snapshots (number - 1) (changed (snapshot s number)))) [
        | inl within ↦ All-set (IsAccepted s) s.snapshots (number - 1) (changed (snapshot s number)) (keeps (are (number - 1) no_snapshot within)) are
        | inr past ↦ subst (All (IsAccepted s)) (sym (set_past s.snapshots (number - 1) (changed (snapshot s number)) past)) are
      ]

  no_fault : (o : Option DecisionFault) → option_map no.Decision o ≡ None → o ≡ None
  no_fault None e = refl
  no_fault (Some fault) e = absurd (none_is (sym e))
    where
      none_is : None ≡ Some (no.Decision fault) → ⊥
      none_is e = cc

  third : (a b c : Option BookRefusal) → option_or a (option_or b (option_or c None)) ≡ None → c ≡ None
  third a b c e = or_first c None (or_second b (option_or c None) (or_second a (option_or b (option_or c None)) e))

  -- ---- a step

  change_accepted : (s : ProjectState) (caller : List ℕ) (asked : Asked) (e : Happened) (place : ℕ) → s.place ≤ place → IsKept s → AreAccepted s → IsGranted s caller asked e → AreAccepted (effect place e s)
  change_accepted s caller ReadConf e place h k are g = absurd (none_some e g.made)
  change_accepted s caller ListDocs e place h k are g = absurd (none_some e g.made)
  change_accepted s caller (ReadText name) e place h k are g = absurd (none_some e g.made)
  change_accepted s caller (ReadLayer name who) e place h k are g = absurd (none_some e g.made)
  change_accepted s caller (TakeSnapshot number) e place h k are g = absurd (none_some e g.made)
  change_accepted s caller ReadPairs e place h k are g = absurd (none_some e g.made)
  change_accepted s caller ReadAlpha e place h k are g = absurd (none_some e g.made)
  change_accepted s caller (ReadReport report) e place h k are g = absurd (none_some e g.made)
  change_accepted s caller (AddText name text) e place h k are g =
      subst (λ x. AreAccepted (effect place x s)) (some_same (TextAdded caller name text) e g.made)
      (all_stay s (effect place (TextAdded caller name text) s) k refl refl (λ doc within. added_text s _ doc within) are)
  change_accepted s caller (Checkout name) e place h k are g =
      subst (λ x. AreAccepted (effect place x s)) (some_same (CheckedOut caller (number_of s name)) e g.made) (row_stays s (number_of s name) place caller (under_hold (Some place)) k are)
  change_accepted s caller (TakeOver name) e place h k are g =
      subst (λ x. AreAccepted (effect place x s)) (some_same (TakenOver caller (number_of s name)) e g.made) (row_stays s (number_of s name) place caller (under_hold (Some place)) k are)
  change_accepted s caller (Commit name hold layer) e place h k are g =
      subst (λ x. AreAccepted (effect place x s)) (some_same (LayerCommitted caller (number_of s name) hold layer) e g.made) (row_stays s (number_of s name) place caller (with_commit layer) k are)
  change_accepted s caller (Park name hold done undone) e place h k are g =
      subst (λ x. AreAccepted (effect place x s)) (some_same (LayerParked caller (number_of s name) hold done undone) e g.made) (row_stays s (number_of s name) place caller (with_draft done undone) k are)
  change_accepted s caller (Finish name) e place h k are g =
      subst (λ x. AreAccepted (effect place x s)) (some_same (LayerFinished caller (number_of s name)) e g.made) (row_stays s (number_of s name) place caller (with_finished true) k are)
  change_accepted s caller (Reopen name who) e place h k are g =
      subst (λ x. AreAccepted (effect place x s)) (some_same (LayerReopened caller (number_of s name) who) e g.made) (row_stays s (number_of s name) place who (with_finished false) k are)
  change_accepted s caller (Ignore name who) e place h k are g =
      subst (λ x. AreAccepted (effect place x s)) (some_same (LayerIgnored caller (number_of s name) who) e g.made) (row_stays s (number_of s name) place who (with_ignored true) k are)
  change_accepted s caller (Readmit name who) e place h k are g =
      subst (λ x. AreAccepted (effect place x s)) (some_same (LayerReadmitted caller (number_of s name) who) e g.made) (row_stays s (number_of s name) place who (with_ignored false) k are)
  change_accepted s caller (Snap name) e place h k are g =
      subst (λ x. AreAccepted (effect place x s)) (some_same (SnapshotTaken caller (number_of s name)) e g.made)
      (All-push (IsAccepted s) s.snapshots (new_snapshot s (number_of s name)) are
      (new_accepted s caller (number_of s name) k (any_within (λ (d : Document). bytes_eq d.name name) s.documents (snap_there s caller name g.free)) (snap_enough s caller name g.free)))
  change_accepted s caller (Decide number holder id verdict) e place h k are g =
      let shot : Snapshot = snapshot s number in
      let item : ItemId = item_in shot holder id in
      let free : decidable s shot item verdict ≡ None = third (taken s number) (holds shot holder) (decidable s shot item verdict) (tests_free s caller (Decide number holder id verdict) g.free) in
      subst (λ x. AreAccepted (effect place x s)) (some_same (ItemDecided caller number item.holder id verdict) e g.made)
      (decided_accepted s number place (with_decision item verdict) are
      (λ is. decide s.conf (length (text_of s shot)) (readings shot.holders) shot.verdicts item verdict is (no_fault (decide_fault s.conf (length (text_of s shot)) (readings shot.holders) shot.verdicts item verdict) free)))
  change_accepted s caller (Undecide number holder id) e place h k are g =
      let shot : Snapshot = snapshot s number in
      let item : ItemId = item_in shot holder id in
      let free : undecidable s shot item ≡ None = third (taken s number) (holds shot holder) (undecidable s shot item) (tests_free s caller (Undecide number holder id) g.free) in
      subst (λ x. AreAccepted (effect place x s)) (some_same (ItemUndecided caller number item.holder id) e g.made)
      (decided_accepted s number place (without_decision item) are
      (λ is. undecide s.conf (length (text_of s shot)) (readings shot.holders) shot.verdicts item is (no_fault (undecide_fault s.conf (length (text_of s shot)) (readings shot.holders) shot.verdicts item) free)))

  none_all : {X : Type 0} (P : X → Type 0) → All P []
  none_all P k d within = absurd (omega arith)

  -- the verdicts of the state behind each history are accepted
  pub legal_accepted : (log : List Happened) → Flawless → IsLegal log → AreAccepted (after log)
  legal_accepted _ flawless (legal_founding conf level people is) = none_all _
  legal_accepted _ flawless (legal_restored state sound) = sound.accepted
  legal_accepted _ flawless (legal_step log caller asked e l typed is) =
      let next : place_behind e (after log).place ≡ (after log).place + 1 = later (after log) caller asked e is in
      subst AreAccepted (sym (after_more log e))
      (change_accepted (after log) caller asked e (place_behind e (after log).place) (omega arith) (legal_kept log flawless l) (legal_accepted log flawless l) (granted (after log) caller asked e is))
    where
      later : (s : ProjectState) (caller : List ℕ) (asked : Asked) (e : Happened) → (step s caller asked).change ≡ Some e → place_behind e s.place ≡ s.place + 1
      later s caller asked e is = step_next s caller asked e s.place is
  legal_accepted _ flawless (legal_freeing log l is) =
      subst AreAccepted (sym (after_more log AllFreed))
      (all_stay (after log) (effect ((after log).place + 1) AllFreed (after log)) (legal_kept log flawless l) refl refl (λ doc within. freed_text (after log) doc within) (legal_accepted log flawless l))
