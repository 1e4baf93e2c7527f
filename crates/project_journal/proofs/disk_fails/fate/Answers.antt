use Rattle.std.proofs.Common.{◌∙◌, sym}
use Rattle.project_journal.proofs.DiskCalls.{fate_here, fate_later}
use Rattle.project_journal.proofs.disk_fails.fate.Goals as goal

pub returns-then-fail-call : goal.returns-then-fail-call
returns-then-fail-call c = sym (c.loop-fail.invariant ∙ fate_here c.args.fails.now c.loop-fail.fail-index c.args.call _ c.loop-fail-test.true c.if-fail-call.true)

pub loop-fail-preserved : goal.loop-fail-preserved
loop-fail-preserved c = c.loop-fail.invariant ∙ fate_later c.args.fails.now c.loop-fail.fail-index c.args.call _ c.loop-fail-test.true c.if-fail-call.false
