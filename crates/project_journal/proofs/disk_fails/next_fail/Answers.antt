use Rattle.std.proofs.Common.{◌∙◌, arith}
use Rattle.project_journal.proofs.DiskCalls.{none_left}
use Rattle.project_journal.proofs.disk_fails.next_fail.Goals as goal

pub returns-clause-left : goal.returns-clause-left
returns-clause-left c = λ left. (c.fate.ensures ∙ none_left c.args.fails.now c.args.calls.now left, λ k d within. omega (arith, left k d within))
