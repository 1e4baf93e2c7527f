-- A snapshot holds what it held when it was taken.
use Rattle.std.proofs.Common.{◌≡◌, ℕ, ◌+◌, ◌-◌, ◌<◌, ◌≤◌, List, [], ◌∷◌, ◌++◌, length, set, take, get_or, Option, Some, None, zero, suc, refl, sym, ◌∙◌, ap, subst, arith, inl, inr, length-append}
use Rattle.std.specs.Prelude.{⊤}
use Rattle.std.proofs.lemmas.Bool.{cases_lt}
use Rattle.std.proofs.lemmas.Grind.{get_or-set_at}
use Rattle.std.proofs.lemmas.List.{get_or_append_left, get_or-set_other, length-set, set_past, take-append-le}
use Rattle.project_machine.specs.ProjectState.{Snapshot, ProjectState, no_snapshot, snapshot}
use Rattle.project_machine.specs.Requests.{Asked, ReadConf, ListDocs, ReadText, AddText, Checkout, TakeOver, Commit, Park, Finish, ReadLayer, Reopen, Ignore, Readmit, Snap, TakeSnapshot, Decide, Undecide, ReadPairs, ReadAlpha, ReadReport, Happened, Founded, TextAdded, CheckedOut, TakenOver, LayerCommitted, LayerParked, LayerFinished, LayerReopened, LayerIgnored, LayerReadmitted, SnapshotTaken, ItemDecided, ItemUndecided, AllFreed, Restored}
use Rattle.project_machine.specs.Machine.{change}
use Rattle.project_machine.specs.History.{after, begin, effect, new_snapshot, on_snapshot, place_behind, upto, with_decision, without_decision}
use Rattle.project_machine.specs.Legal.{HoldsTheSame, IsLegal, legal_founding, legal_restored, legal_step, legal_freeing}
use Rattle.project_machine.proofs.HistoryLemmas.{after_more, granted, length_push}
use Rattle.project_machine.proofs.RowLemmas.{same_or}

-- the first snapshots of a project stand in another, and hold the same there
record Keeps (s t : ProjectState) : Type 0 where
  longer : length s.snapshots ≤ length t.snapshots
  same : (i : ℕ) → i < length s.snapshots → HoldsTheSame (get_or s.snapshots i no_snapshot) (get_or t.snapshots i no_snapshot)

itself : (shot : Snapshot) → HoldsTheSame shot shot
itself shot = record { doc = refl; holders = refl }

unchanged : (s t : ProjectState) → t.snapshots ≡ s.snapshots → Keeps s t
unchanged s t same = record {
  longer = subst (λ shots. length s.snapshots ≤ length shots) (sym same) (omega arith);
  same = λ i within. subst (λ shots. HoldsTheSame (get_or s.snapshots i no_snapshot) (get_or shots i no_snapshot)) (sym same) (itself (get_or s.snapshots i no_snapshot));
}

keeps_on : (s t u : ProjectState) → Keeps s t → Keeps t u → Keeps s u
keeps_on s t u first second =
    let one : length s.snapshots ≤ length t.snapshots = first.longer in
    let two : length t.snapshots ≤ length u.snapshots = second.longer in
    record {
      longer = omega arith;
      same = λ i within.
          let a : HoldsTheSame (get_or s.snapshots i no_snapshot) (get_or t.snapshots i no_snapshot) = first.same i within in
          let b : HoldsTheSame (get_or t.snapshots i no_snapshot) (get_or u.snapshots i no_snapshot) = second.same i (omega arith) in
          record { doc = b.doc ∙ a.doc; holders = b.holders ∙ a.holders };
    }

one_more : (s t : ProjectState) (shot : Snapshot) → t.snapshots ≡ s.snapshots ++ shot ∷ [] → Keeps s t
one_more s t shot same = record {
  longer = subst (λ shots. length s.snapshots ≤ length shots) (sym same) (let size : length (s.snapshots ++ shot ∷ []) ≡ length s.snapshots + 1 = omega (arith, length-append s.snapshots (shot ∷ [])) in omega arith);
  same = λ i within. subst (λ shots. HoldsTheSame (get_or s.snapshots i no_snapshot) (get_or shots i no_snapshot)) (sym same)
      (subst (HoldsTheSame (get_or s.snapshots i no_snapshot)) (sym (get_or_append_left s.snapshots (shot ∷ []) no_snapshot i within)) (itself (get_or s.snapshots i no_snapshot)));
}

changed_one : (shots : List Snapshot) (n i : ℕ) (new : Snapshot) → HoldsTheSame (get_or shots n no_snapshot) new → HoldsTheSame (get_or shots i no_snapshot) (get_or (set shots n new) i no_snapshot)
changed_one shots n i new here =
    elim (cases_lt n (length shots)) as (λ _. HoldsTheSame (get_or shots i no_snapshot) (get_or (set shots n new) i no_snapshot)) [
      | inr past ↦ subst (λ all. HoldsTheSame (get_or shots i no_snapshot) (get_or all i no_snapshot)) (sym (set_past shots n new past)) (itself (get_or shots i no_snapshot))
      | inl within ↦ elim (same_or i n) as (λ _. HoldsTheSame (get_or shots i no_snapshot) (get_or (set shots n new) i no_snapshot)) [
        | inl same ↦ subst (HoldsTheSame (get_or shots i no_snapshot)) (sym (get_or-set_at shots n i new no_snapshot same within)) (subst (λ k. HoldsTheSame (get_or shots k no_snapshot) new) (sym same) here)
        | inr other ↦ subst (HoldsTheSame (get_or shots i no_snapshot)) (sym (get_or-set_other shots n i new no_snapshot other)) (itself (get_or shots i no_snapshot))
      ]
    ]

decided : (s t : ProjectState) (number : ℕ) (changed : Snapshot → Snapshot) → t.snapshots ≡ (on_snapshot s number changed).snapshots → HoldsTheSame (snapshot s number) (changed (snapshot s number)) → Keeps s t
decided s t number changed same here = record {
  longer = subst (λ shots. length s.snapshots ≤ length shots) (sym same) (let size : length (set s.snapshots (number - 1) (changed (snapshot s number))) ≡ length s.snapshots = length-set s.snapshots (number - 1) (changed (snapshot s number)) in omega arith);
  same = λ i within. subst (λ shots. HoldsTheSame (get_or s.snapshots i no_snapshot) (get_or shots i no_snapshot)) (sym same) (changed_one s.snapshots (number - 1) i (changed (snapshot s number)) here);
}

-- a change that begins no history
abbrev pub IsLater : Happened → Type 0
IsLater (Founded conf level people) = ⊥
IsLater (Restored place state) = ⊥
IsLater happened = ⊤

pub change_later : (s : ProjectState) (caller : List ℕ) (asked : Asked) (e : Happened) → change s caller asked ≡ Some e → IsLater e
change_later s caller asked e made = later (change s caller asked) e made (each asked)
  where
    LaterIf : Option Happened → Type 0
    LaterIf None = ⊤
    LaterIf (Some h) = IsLater h

    later : (c : Option Happened) (e : Happened) → c ≡ Some e → LaterIf c → IsLater e
    later c e made is = subst LaterIf made is

    each : (asked : Asked) → LaterIf (change s caller asked)
    each ReadConf = tt
    each ListDocs = tt
    each (ReadText name) = tt
    each (AddText name text) = tt
    each (Checkout name) = tt
    each (TakeOver name) = tt
    each (Commit name hold layer) = tt
    each (Park name hold done undone) = tt
    each (Finish name) = tt
    each (ReadLayer name who) = tt
    each (Reopen name who) = tt
    each (Ignore name who) = tt
    each (Readmit name who) = tt
    each (Snap name) = tt
    each (TakeSnapshot number) = tt
    each (Decide number holder id verdict) = tt
    each (Undecide number holder id) = tt
    each ReadPairs = tt
    each ReadAlpha = tt
    each (ReadReport report) = tt

effect_keeps : (s : ProjectState) (place : ℕ) (e : Happened) → IsLater e → Keeps s (effect place e s)
effect_keeps s place (Founded conf level people) is = absurd is
effect_keeps s place (Restored at state) is = absurd is
effect_keeps s place (TextAdded by name text) is = unchanged s _ refl
effect_keeps s place (CheckedOut by doc) is = unchanged s _ refl
effect_keeps s place (TakenOver by doc) is = unchanged s _ refl
effect_keeps s place (LayerCommitted by doc hold layer) is = unchanged s _ refl
effect_keeps s place (LayerParked by doc hold done undone) is = unchanged s _ refl
effect_keeps s place (LayerFinished by doc) is = unchanged s _ refl
effect_keeps s place (LayerReopened by doc who) is = unchanged s _ refl
effect_keeps s place (LayerIgnored by doc who) is = unchanged s _ refl
effect_keeps s place (LayerReadmitted by doc who) is = unchanged s _ refl
effect_keeps s place (SnapshotTaken by doc) is = one_more s _ (new_snapshot s doc) refl
effect_keeps s place (ItemDecided by number holder id verdict) is = decided s _ number (with_decision (record { holder = holder; id = id }) verdict) refl (record { doc = refl; holders = refl })
effect_keeps s place (ItemUndecided by number holder id) is = decided s _ number (without_decision (record { holder = holder; id = id })) refl (record { doc = refl; holders = refl })
effect_keeps s place AllFreed is = unchanged s _ refl

take_whole : (n : ℕ) (log : List Happened) → length log ≤ n → take n log ≡ log
take_whole zero [] h = refl
take_whole (suc n) [] h = refl
take_whole zero (e ∷ log) h = absurd (omega arith)
take_whole (suc n) (e ∷ log) h = ap (λ rest. e ∷ rest) (take_whole n log (omega arith))

whole : (n : ℕ) (log : List Happened) → length log ≤ n → Keeps (after (take n log)) (after log)
whole n log past = unchanged (after (take n log)) (after log) (ap (λ l. (after l).snapshots) (sym (take_whole n log past)))

more_keeps : (n : ℕ) (log : List Happened) (e : Happened) → IsLater e → Keeps (after (take n log)) (after log) → Keeps (after (take n (log ++ e ∷ []))) (after (log ++ e ∷ []))
more_keeps n log e is k =
    elim (cases_lt (length log) n) as (λ _. Keeps (after (take n (log ++ e ∷ []))) (after (log ++ e ∷ []))) [
      | inl past ↦ whole n (log ++ e ∷ []) (let more : length (log ++ e ∷ []) ≡ length log + 1 = length_push log e in omega arith)
      | inr within ↦ subst (λ l. Keeps (after l) (after (log ++ e ∷ []))) (sym (take-append-le n log (e ∷ []) within))
          (keeps_on (after (take n log)) (after log) (after (log ++ e ∷ [])) k
          (subst (Keeps (after log)) (sym (after_more log e)) (effect_keeps (after log) (place_behind e (after log).place) e is)))
    ]

none_keeps : (s : ProjectState) → s.snapshots ≡ [] → (t : ProjectState) → Keeps s t
none_keeps s none t = record {
  longer = subst (λ shots. length shots ≤ length t.snapshots) (sym none) (omega arith);
  same = λ i within. absurd (let size : length s.snapshots ≡ 0 = ap length none in omega arith);
}

front_keeps : (n : ℕ) (log : List Happened) → IsLegal log → Keeps (after (take n log)) (after log)
front_keeps n _ (legal_founding conf level people is) = one_first n (Founded conf level people)
  where
    one_first : (n : ℕ) (e : Happened) → Keeps (after (take n (e ∷ []))) (after (e ∷ []))
    one_first zero e = none_keeps _ refl _
    one_first (suc n) e = whole (suc n) (e ∷ []) (omega arith)
front_keeps n _ (legal_restored state sound) = one_first n (Restored state.place state)
  where
    one_first : (n : ℕ) (e : Happened) → Keeps (after (take n (e ∷ []))) (after (e ∷ []))
    one_first zero e = none_keeps _ refl _
    one_first (suc n) e = whole (suc n) (e ∷ []) (omega arith)
front_keeps n _ (legal_step log caller asked e l typed is) = more_keeps n log e (change_later (after log) caller asked e (granted (after log) caller asked e is).made) (front_keeps n log l)
front_keeps n _ (legal_freeing log l is) = more_keeps n log AllFreed tt (front_keeps n log l)

-- a snapshot that was taken up to a place holds the same at the end
pub snapshot_keeps : (log : List Happened) (place number : ℕ) → IsLegal log → 0 < number → number ≤ length (after (upto place log)).snapshots → HoldsTheSame (snapshot (after (upto place log)) number) (snapshot (after log) number)
snapshot_keeps log place number legal low high = (front_keeps (place - begin log) log legal).same (number - 1) (omega arith)
