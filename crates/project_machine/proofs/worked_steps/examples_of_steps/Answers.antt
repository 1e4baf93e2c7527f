use Rattle.std.proofs.Common.{None, Option, Some, ap, if◌then◌else◌, length, nat_lt, refl, ◌≡◌, ◌∙◌, List, [], ℕ}
use Rattle.std.specs.Prelude.{codes}
use Rattle.std.specs.Option.{option_map, option_or}
use Rattle.entry_bytes.specs.Entries.{entry_bytes}
use Rattle.entry_bytes.specs.Fields.{u32_bytes, u64_bytes}
use Rattle.entry_bytes.specs.declared.entry.Entry.TheVariants as entry
use Rattle.char_documents.specs.Tokens.{tokens_of}
use Rattle.layer_model.specs.Annotations.{no_marks}
use Rattle.layer_model.specs.declared.rule.Rule.{Rule}
use Rattle.project_machine.specs.declared.book_refusal.BookRefusal.TheVariants as no
use Rattle.command_bytes.specs.CommandBytes.{script_bytes}
use Rattle.project_machine.specs.Requests.{Commit, Committed, LayerCommitted}
use Rattle.project_machine.specs.History.{unfounded}
use Rattle.project_machine.specs.Machine.{Step, refused, unless}
use Rattle.project_machine.specs.WorkedSteps.{at_place}
use Rattle.project_machine.proofs.EmptyLemmas.{nothing_may_be_committed, no_lines}
use Rattle.project_machine.proofs.worked_steps.examples_of_steps.Goals as goal

pub returns-clause-a_text : goal.returns-clause-a_text
unfolding entry_bytes u32_bytes u64_bytes tokens_of lib.Utf8.encode
returns-clause-a_text c = refl

pub returns-clause-a_checkout : goal.returns-clause-a_checkout
unfolding entry_bytes u32_bytes u64_bytes
returns-clause-a_checkout c = refl

pub returns-clause-another_annotator : goal.returns-clause-another_annotator
unfolding entry_bytes u32_bytes u64_bytes
returns-clause-another_annotator c = refl

pub returns-clause-a_takeover : goal.returns-clause-a_takeover
unfolding entry_bytes u32_bytes u64_bytes
returns-clause-a_takeover c = refl

pub returns-clause-a_park : goal.returns-clause-a_park
unfolding entry_bytes u32_bytes u64_bytes script_bytes
returns-clause-a_park c = refl

pub returns-clause-a_finish : goal.returns-clause-a_finish
unfolding entry_bytes u32_bytes u64_bytes
returns-clause-a_finish c = refl

pub returns-clause-a_reopening : goal.returns-clause-a_reopening
unfolding entry_bytes u32_bytes u64_bytes
returns-clause-a_reopening c = refl

pub returns-clause-ignored : goal.returns-clause-ignored
unfolding entry_bytes u32_bytes u64_bytes
returns-clause-ignored c = refl

-- a commit of nothing marked, by the rule that forbids it
by_rule : Option Rule → Step
by_rule rule = unless (at_place 4) (Commit (codes "x") 4 no_marks) (option_or (option_map no.Broken rule) None) (Committed 1) (Some (LayerCommitted (codes "ann") 0 4 no_marks))

-- the same where no rule forbids it, by the lines of its entry
by_lines : List ℕ → Step
by_lines lines =
    if nat_lt 16777216 (length (entry_bytes (entry.Commit (codes "ann") 0 4 lines)))
    then refused (at_place 4) (Commit (codes "x") 4 no_marks) (no.EntryTooLong (length (entry_bytes (entry.Commit (codes "ann") 0 4 lines))))
    else record { answer = Committed 1; change = Some (LayerCommitted (codes "ann") 0 4 no_marks) }

short_lines : by_lines [] ≡ record { answer = Committed 1; change = Some (LayerCommitted (codes "ann") 0 4 no_marks) }
unfolding by_lines entry_bytes u32_bytes u64_bytes
short_lines = refl

pub returns-clause-a_commit : goal.returns-clause-a_commit
unfolding by_rule by_lines
returns-clause-a_commit c = ap by_rule (nothing_may_be_committed unfounded.conf 5) ∙ (ap by_lines (no_lines unfounded.conf (codes "a b c")) ∙ short_lines)
