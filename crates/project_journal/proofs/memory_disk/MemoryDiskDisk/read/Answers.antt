use Rattle.std.proofs.Common.{◌≡◌, ◌∙◌, refl, sym, ap, false, is_err}
use Rattle.project_journal.proofs.DiskCalls.{counted_is}
use Rattle.project_journal.proofs.memory_disk.MemoryDiskDisk.read.Goals as goal

pub returns-in_err-answer-clause-listed : goal.returns-in_err-answer-clause-listed
returns-in_err-answer-clause-listed c =
    let disk = c.args.self.now in
    let failed : is_err c.answer.result ≡ is_err c.from_residual.result = ap is_err c.in_err-answer.was ∙ sym c.from_residual.ensures.0 in
    record {
      called =
          counted_is disk.fails.items c.deref.result.now disk.calls c.next_fail-fail.result c.answer.result c.deref.ensures.value c.next_fail-fail.ensures.listed c.answer.ensures.ok
          c.next_fail-fail.new.calls disk.faults c.answer.new.faults (is_err c.from_residual.result) failed c.next_fail-fail.ensures.counted c.answer.ensures.one c.answer.ensures.none;
      list = refl;
    }

pub returns-clause-listed : goal.returns-clause-listed
returns-clause-listed c =
    let disk = c.args.self.now in record {
      called =
          counted_is disk.fails.items c.deref.result.now disk.calls c.next_fail-fail.result c.answer.result c.deref.ensures.value c.next_fail-fail.ensures.listed c.answer.ensures.ok
          c.next_fail-fail.new.calls disk.faults c.answer.new.faults false (ap is_err c.in_ok-answer.was) c.next_fail-fail.ensures.counted c.answer.ensures.one c.answer.ensures.none;
      list = refl;
    }
