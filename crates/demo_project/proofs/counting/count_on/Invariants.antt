use Rattle.std.proofs.Common.{◌≡◌, false}
use Rattle.std.specs.Io.KnownBytes.{prepend_known}
use Rattle.demo_project.proofs.CountLemmas.{CountsTo}
use Rattle.demo_project.proofs.counting.count_on.Given as goal

abbrev pub invariant-loop-count : goal.invariant-loop-count
invariant-loop-count g l = record {
  going : l.inbox.stopped ≡ false;
  counted : CountsTo (prepend_known l.fn.inbox.held (g.L.Source.left l.fn.link)) (prepend_known l.inbox.held (g.L.Source.left l.link)) l.count;
}
