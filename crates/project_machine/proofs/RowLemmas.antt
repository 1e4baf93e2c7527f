-- What steps keep of a row, a document and a snapshot.
use Rattle.std.proofs.Common.{◌≡◌, ◌≢◌, ◌⊎◌, ℕ, ◌+◌, ◌≤◌, Bool, true, false, List, length, set, get_or, Option, Some, None, IfSome, refl, sym, ◌∙◌, ap, subst, arith, inl, inr}
use Rattle.std.specs.FinMap as finite
use Rattle.std.specs.FinMap.{get-empty, contains_key-keys}
use Rattle.std.specs.List.{list_any}
use Rattle.std.specs.Option.{option_map, option_or}
use Rattle.std.specs.Ordering.{nat_cmp, eq_by_cmp}
use Rattle.std.proofs.lemmas.Bool.{cases_lt}
use Rattle.std.proofs.lemmas.Grind.{get_or-set_at}
use Rattle.std.proofs.lemmas.List.{get_or-set_other, set_past}
use Rattle.conf_model.specs.Configurations.{Configuration}
use Rattle.layer_model.specs.declared.flaw.Flaw.{Flaw}
use Rattle.layer_model.specs.Annotations.{Annotations, no_marks}
use Rattle.layer_core.specs.declared.command.Command.{Command}
use Rattle.layer_rules.specs.WellFormed.{IsWellFormed, Obeys, least_flaw, commit_fault}
use Rattle.layer_undo.specs.Replays.{first_refusal}
use Rattle.entry_bytes.specs.declared.entry.Entry.TheVariants as entry
use Rattle.ann_writer.specs.AnnOf.{ann_of}
use Rattle.project_machine.specs.ProjectState.{Row, blank_row}
use Rattle.command_bytes.specs.CommandBytes.{scripts_bytes}
use Rattle.project_machine.specs.Entries.{IsShort}
use Rattle.command_bytes.specs.CommandValues.{AreCommands, IsTypedLayer}
use Rattle.project_machine.specs.Machine.{commit_rule}
use Rattle.project_machine.specs.History.{under_hold, with_commit, with_draft, with_finished, with_ignored}
use Rattle.project_machine.specs.Legal.{IsRowKept, LayerObeys}
use Rattle.project_machine.proofs.EmptyLemmas.{no_keys, nothing_may_be_committed}
use Rattle.project_machine.proofs.SizeLemmas.{nothing_short}

-- a layer without a flaw is well-formed
abbrev pub Flawless : Type 0
Flawless = (conf : Configuration) (characters : ℕ) (layer : Annotations) → least_flaw conf characters layer ≡ None → IsWellFormed conf characters layer

pub or_first : {X : Type 0} (a b : Option X) → option_or a b ≡ None → a ≡ None
or_first None b e = refl
or_first (Some x) b e = e

pub or_second : {X : Type 0} (a b : Option X) → option_or a b ≡ None → b ≡ None
or_second None b e = e
or_second (Some x) b e = cc

pub map_none : {X Y : Type 0} (f : X → Y) (a : Option X) → option_map f a ≡ None → a ≡ None
map_none f None e = refl
map_none f (Some x) e = cc

-- a layer that no rule forbids to commit obeys
pub rule_obeys : (conf : Configuration) (characters : ℕ) (layer : Annotations) → Flawless → commit_rule conf characters layer ≡ None → Obeys conf characters layer
rule_obeys conf characters layer flawless e = record {
  well_formed = flawless conf characters layer (map_none (λ (flaw : Flaw). flaw.rule) (least_flaw conf characters layer) (or_first (option_map (λ (flaw : Flaw). flaw.rule) (least_flaw conf characters layer)) (commit_fault conf layer) e));
  enough = or_second (option_map (λ (flaw : Flaw). flaw.rule) (least_flaw conf characters layer)) (commit_fault conf layer) e;
}

-- ---- nothing marked

false_true : false ≡ true → ⊥
false_true e = cc

none_is : {X : Type 0} (x : X) → None ≡ Some x → ⊥
none_is x e = cc

no_number : (X : Type 0) (n : ℕ) → finite.contains_key (finite.empty {K = ℕ} {X = X} {R = nat_cmp}) n ≡ true → n ≤ 999999999
no_number X n e = absurd (false_true (sym (contains_key-keys (finite.empty {K = ℕ} {X = X} {R = nat_cmp}) n ∙ ap (list_any (eq_by_cmp nat_cmp n)) (no_keys X)) ∙ e))

pub nothing_typed : IsTypedLayer no_marks
nothing_typed = record {
  kept = record {
    spans = no_number _;
    events = no_number _;
    relations = no_number _;
    attributes = no_number _;
    legacy = no_number _;
    normals = no_number _;
    notes = no_number _;
    classes = record { few = omega arith; ordered = tt };
  };
  texts = record {
    normals = λ n normal e. absurd (none_is normal (sym (get-empty nat_cmp n) ∙ e));
    notes = λ n note e. absurd (none_is note (sym (get-empty nat_cmp n) ∙ e));
  };
}

pub nothing_obeys : (conf : Configuration) (characters : ℕ) → Flawless → LayerObeys conf characters no_marks
nothing_obeys conf characters flawless = record { typed = nothing_typed; obeys = rule_obeys conf characters no_marks flawless (nothing_may_be_committed conf characters) }

-- ---- a row

hold_later : (hold : Option ℕ) (low high : ℕ) → low ≤ high → IfSome hold (λ n. n ≤ low) → IfSome hold (λ n. n ≤ high)
hold_later None low high h is = tt
hold_later (Some n) low high h is = omega arith

-- a row at a later place
pub row_later : (conf : Configuration) (text : List ℕ) (low high : ℕ) (who : List ℕ) (r : Row) → low ≤ high → IsRowKept conf text low who r → IsRowKept conf text high who r
row_later conf text low high who r h k = record {
  layer = k.layer;
  commit = k.commit;
  commands = k.commands;
  accepted = k.accepted;
  draft = k.draft;
  counted = (let c : r.revision ≤ low = k.counted in omega arith);
  held = hold_later r.hold low high h k.held;
  empty = k.empty;
  finished = k.finished;
  ignored = k.ignored;
}

pub blank_kept : (conf : Configuration) (text : List ℕ) (place : ℕ) (who : List ℕ) → Flawless → IsRowKept conf text place who blank_row
blank_kept conf text place who flawless = record {
  layer = nothing_obeys conf (length text) flawless;
  commit = λ some. absurd (omega arith);
  commands = (tt, tt);
  accepted = refl;
  draft = nothing_short conf text;
  counted = omega arith;
  held = tt;
  empty = λ _. refl;
  finished = λ _. refl;
  ignored = λ _. refl;
}

pub held_kept : (conf : Configuration) (text : List ℕ) (place : ℕ) (who : List ℕ) (hold : Option ℕ) (r : Row) → IfSome hold (λ n. n ≤ place) → IsRowKept conf text place who r → IsRowKept conf text place who (under_hold hold r)
held_kept conf text place who hold r is k = record {
  layer = k.layer;
  commit = k.commit;
  commands = k.commands;
  accepted = k.accepted;
  draft = k.draft;
  counted = k.counted;
  held = is;
  empty = k.empty;
  finished = k.finished;
  ignored = k.ignored;
}

pub committed_kept : (conf : Configuration) (text : List ℕ) (low high : ℕ) (who : List ℕ) (layer : Annotations) (r : Row) → low + 1 ≤ high → LayerObeys conf (length text) layer → IsShort (entry.Commit who 0 0 (ann_of conf text layer))
    → IsRowKept conf text low who r → IsRowKept conf text high who (with_commit layer r)
committed_kept conf text low high who layer r h obeys short k =
    let c : r.revision ≤ low = k.counted in
    record {
      layer = obeys;
      commit = λ some. short;
      commands = (tt, tt);
      accepted = refl;
      draft = nothing_short conf text;
      counted = omega arith;
      held = hold_later r.hold low high (omega arith) k.held;
      empty = λ (e : r.revision + 1 ≡ 0). absurd (omega arith);
      finished = λ (e : r.revision + 1 ≡ 0). absurd (omega arith);
      ignored = λ (e : r.revision + 1 ≡ 0). absurd (omega arith);
    }

pub parked_kept : (conf : Configuration) (text : List ℕ) (place : ℕ) (who : List ℕ) (done undone : List Command) (r : Row) → AreCommands done × AreCommands undone → first_refusal conf (length text) r.layer done undone ≡ None
    → IsShort (entry.Draft (scripts_bytes conf text done undone)) → IsRowKept conf text place who r → IsRowKept conf text place who (with_draft done undone r)
parked_kept conf text place who done undone r typed free short k = record {
  layer = k.layer;
  commit = k.commit;
  commands = typed;
  accepted = free;
  draft = short;
  counted = k.counted;
  held = tt;
  empty = k.empty;
  finished = k.finished;
  ignored = k.ignored;
}

pub finished_kept : (conf : Configuration) (text : List ℕ) (place : ℕ) (who : List ℕ) (b : Bool) (r : Row) → (r.revision ≡ 0 → b ≡ false) → IsRowKept conf text place who r → IsRowKept conf text place who (with_finished b r)
finished_kept conf text place who b r is k = record {
  layer = k.layer;
  commit = k.commit;
  commands = k.commands;
  accepted = k.accepted;
  draft = k.draft;
  counted = k.counted;
  held = k.held;
  empty = k.empty;
  finished = is;
  ignored = k.ignored;
}

pub ignored_kept : (conf : Configuration) (text : List ℕ) (place : ℕ) (who : List ℕ) (b : Bool) (r : Row) → (r.revision ≡ 0 → b ≡ false) → IsRowKept conf text place who r → IsRowKept conf text place who (with_ignored b r)
ignored_kept conf text place who b r is k = record {
  layer = k.layer;
  commit = k.commit;
  commands = k.commands;
  accepted = k.accepted;
  draft = k.draft;
  counted = k.counted;
  held = k.held;
  empty = k.empty;
  finished = k.finished;
  ignored = is;
}

-- ---- the rows of a document

pub same_or : (a b : ℕ) → (a ≡ b) ⊎ (a ≢ b)
same_or a b =
    elim (cases_lt a b) as (λ _. (a ≡ b) ⊎ (a ≢ b)) [
      | inl less ↦ inr (λ e. absurd (omega arith))
      | inr up ↦ elim (cases_lt b a) as (λ _. (a ≡ b) ⊎ (a ≢ b)) [
        | inl more ↦ inr (λ e. absurd (omega arith))
        | inr down ↦ inl (omega arith)
      ]
    ]

-- what holds of the row of each rater, and of another row of one, holds of each with that one in place
pub rows_set : (P : ℕ → Row → Type 0) (rows : List Row) (i : ℕ) (new : Row) → P i new → ((j : ℕ) (r : Row) → P j (get_or rows j r)) → (j : ℕ) (r : Row) → P j (get_or (set rows i new) j r)
rows_set P rows i new here each j r =
    elim (cases_lt i (length rows)) as (λ _. P j (get_or (set rows i new) j r)) [
      | inr past ↦ subst (λ all. P j (get_or all j r)) (sym (set_past rows i new past)) (each j r)
      | inl within ↦ elim (same_or j i) as (λ _. P j (get_or (set rows i new) j r)) [
        | inl same ↦ subst (P j) (sym (get_or-set_at rows i j new r same within)) (subst (λ k. P k new) (sym same) here)
        | inr other ↦ subst (P j) (sym (get_or-set_other rows i j new r other)) (each j r)
      ]
    ]
