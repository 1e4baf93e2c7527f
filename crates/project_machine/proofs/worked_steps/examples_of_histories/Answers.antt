use Rattle.std.proofs.Common.{◌≡◌, ℕ, List, [], length, nat_lt, None, Option, Some, ◌∙◌, ap, arith, refl, if◌then◌else◌}
use Rattle.std.specs.Prelude.{codes}
use Rattle.std.specs.Str.{chars}
use Rattle.std.specs.List.{All}
use Rattle.std.specs.List.Sorted.{IsStrictlySortedBy}
use Rattle.std.specs.Option.{option_map, option_or}
use Rattle.mark_base.specs.Names.{slug_fault}
use Rattle.type_hierarchy.specs.TypeFaults.{bad_parent, fault_of, name_twice}
use Rattle.entry_bytes.specs.Entries.{entry_bytes}
use Rattle.entry_bytes.specs.Fields.{IsSlug, u32_bytes, u64_bytes}
use Rattle.entry_bytes.specs.declared.entry.Entry.TheVariants as entry
use Rattle.conf_model.specs.ConfText.{conf_text}
use Rattle.conf_model.specs.Sound as configuration
use Rattle.layer_model.specs.Annotations.{no_marks}
use Rattle.layer_model.specs.declared.rule.Rule.{Rule}
use Rattle.project_machine.specs.declared.book_refusal.BookRefusal.TheVariants as no
use Rattle.project_machine.specs.People.{IsRoster}
use Rattle.project_machine.specs.ProjectState.{ProjectState}
use Rattle.command_bytes.specs.CommandBytes.{script_bytes}
use Rattle.project_machine.specs.Requests.{AddText, Checkout, TakeOver, Commit, Park, Finish, Snap, Committed, TextAdded, CheckedOut, TakenOver, LayerCommitted, LayerParked, LayerFinished, SnapshotTaken}
use Rattle.project_machine.specs.RequestValues.{IsDocText}
use Rattle.project_machine.specs.Machine.{Step, refused, step, unless}
use Rattle.project_machine.specs.History.{unfounded, upto}
use Rattle.project_machine.specs.Legal.{IsFounding, legal_founding, legal_step}
use Rattle.project_machine.specs.WorkedSteps.{at_place, people, history}
use Rattle.project_machine.proofs.EmptyLemmas.{nothing_may_be_committed, no_lines}
use Rattle.project_machine.proofs.RowLemmas.{nothing_typed}
use Rattle.project_machine.proofs.worked_steps.examples_of_histories.Goals as goal

slug_ann : IsSlug (codes "ann")
unfolding slug_fault lib.Utf8.encode chars
slug_ann = record { utf8 = (codes "ann", (refl, refl)); spelling = refl }

slug_bob : IsSlug (codes "bob")
unfolding slug_fault lib.Utf8.encode chars
slug_bob = record { utf8 = (codes "bob", (refl, refl)); spelling = refl }

slug_cur : IsSlug (codes "cur")
unfolding slug_fault lib.Utf8.encode chars
slug_cur = record { utf8 = (codes "cur", (refl, refl)); spelling = refl }

slug_x : IsSlug (codes "x")
unfolding slug_fault lib.Utf8.encode chars
slug_x = record { utf8 = (codes "x", (refl, refl)); spelling = refl }

text_x : IsDocText (codes "a b c")
unfolding lib.Utf8.encode chars
text_x = record { short = omega arith; valid = (codes "a b c", (refl, refl)); characters = refl }

roster : IsRoster people
unfolding IsStrictlySortedBy
roster = record {
  ascending = ((refl, (refl, tt)), ((refl, tt), (tt, tt)));
  names = (slug_ann, (slug_bob, (slug_cur, tt)));
  sorts = record { some_annotator = omega arith; few_annotators = omega arith; some_curator = omega arith; few_curators = omega arith };
}

none_all : {X : Type 0} (P : X → Type 0) → All P []
none_all P k d within = absurd (omega arith)

sound : configuration.IsSound unfounded.conf
unfolding fault_of bad_parent name_twice
sound = record {
  types = refl;
  names = none_all _;
  entities_first = refl;
  tree = refl;
  entity_steps = refl;
  event_steps = refl;
  roles_each = refl;
  entity_roles = refl;
  roles = none_all _;
  relations_few = omega arith;
  relations_differ = refl;
  relations = none_all _;
  attributes_few = omega arith;
  attributes_differ = refl;
  attributes = none_all _;
  overlaps = none_all _;
}

founding : IsFounding unfounded.conf 255 people
unfolding conf_text
founding = record { sound = sound; short = omega arith; in_range = omega arith; roster = roster }

-- a commit of nothing marked, by the rule that forbids it
by_rule : ProjectState → List ℕ → ℕ → Option Rule → Step
by_rule s who hold rule = unless s (Commit (codes "x") hold no_marks) (option_or (option_map no.Broken rule) None) (Committed 1) (Some (LayerCommitted who 0 hold no_marks))

-- the same where no rule forbids it, by the lines of its entry
by_lines : ProjectState → List ℕ → ℕ → List ℕ → Step
by_lines s who hold lines =
    if nat_lt 16777216 (length (entry_bytes (entry.Commit who 0 hold lines)))
    then refused s (Commit (codes "x") hold no_marks) (no.EntryTooLong (length (entry_bytes (entry.Commit who 0 hold lines))))
    else record { answer = Committed 1; change = Some (LayerCommitted who 0 hold no_marks) }

ann_short : (by_lines (at_place 4) (codes "ann") 4 []).change ≡ Some (LayerCommitted (codes "ann") 0 4 no_marks)
unfolding by_lines entry_bytes u32_bytes u64_bytes
ann_short = refl

bob_short : (by_lines (at_place 8) (codes "bob") 8 []).change ≡ Some (LayerCommitted (codes "bob") 0 8 no_marks)
unfolding by_lines entry_bytes u32_bytes u64_bytes
bob_short = refl

ann_commits : (step (at_place 4) (codes "ann") (Commit (codes "x") 4 no_marks)).change ≡ Some (LayerCommitted (codes "ann") 0 4 no_marks)
unfolding by_rule by_lines
ann_commits =
    ap (λ rule. (by_rule (at_place 4) (codes "ann") 4 rule).change) (nothing_may_be_committed unfounded.conf 5)
    ∙ (ap (λ lines. (by_lines (at_place 4) (codes "ann") 4 lines).change) (no_lines unfounded.conf (codes "a b c")) ∙ ann_short)

bob_commits : (step (at_place 8) (codes "bob") (Commit (codes "x") 8 no_marks)).change ≡ Some (LayerCommitted (codes "bob") 0 8 no_marks)
unfolding by_rule by_lines
bob_commits =
    ap (λ rule. (by_rule (at_place 8) (codes "bob") 8 rule).change) (nothing_may_be_committed unfounded.conf 5)
    ∙ (ap (λ lines. (by_lines (at_place 8) (codes "bob") 8 lines).change) (no_lines unfounded.conf (codes "a b c")) ∙ bob_short)

pub returns : goal.returns
unfolding entry_bytes u32_bytes u64_bytes script_bytes lib.Utf8.encode
returns c =
    legal_step (upto 11 history) (codes "cur") (Snap (codes "x")) (SnapshotTaken (codes "cur") 0)
    (legal_step (upto 10 history) (codes "bob") (Finish (codes "x")) (LayerFinished (codes "bob") 0)
    (legal_step (upto 9 history) (codes "bob") (Park (codes "x") 8 [] []) (LayerParked (codes "bob") 0 8 [] [])
    (legal_step (upto 8 history) (codes "bob") (Commit (codes "x") 8 no_marks) (LayerCommitted (codes "bob") 0 8 no_marks)
    (legal_step (upto 7 history) (codes "bob") (Checkout (codes "x")) (CheckedOut (codes "bob") 0)
    (legal_step (upto 6 history) (codes "ann") (Finish (codes "x")) (LayerFinished (codes "ann") 0)
    (legal_step (upto 5 history) (codes "ann") (Park (codes "x") 4 [] []) (LayerParked (codes "ann") 0 4 [] [])
    (legal_step (upto 4 history) (codes "ann") (Commit (codes "x") 4 no_marks) (LayerCommitted (codes "ann") 0 4 no_marks)
    (legal_step (upto 3 history) (codes "ann") (TakeOver (codes "x")) (TakenOver (codes "ann") 0)
    (legal_step (upto 2 history) (codes "ann") (Checkout (codes "x")) (CheckedOut (codes "ann") 0)
    (legal_step (upto 1 history) (codes "cur") (AddText (codes "x") (codes "a b c")) (TextAdded (codes "cur") (codes "x") (codes "a b c"))
    (legal_founding unfounded.conf 255 people founding)
    (slug_x, text_x) refl) slug_x refl) slug_x refl) (slug_x, omega arith, nothing_typed) ann_commits) (slug_x, omega arith, tt, tt) refl) slug_x refl)
    slug_x refl) (slug_x, omega arith, nothing_typed) bob_commits) (slug_x, omega arith, tt, tt) refl) slug_x refl) slug_x refl
