use Rattle.std.proofs.Common.{rules, ◌≡◌, ◌∙◌, refl, sym, ap, false, is_err}
use Rattle.std.proofs.lemmas.Bool.{true≢false}
use Rattle.project_journal.proofs.DiskCalls.{counted_is}
use Rattle.project_journal.proofs.PastLemmas.{last_now, elapses, no_more_sync, durable_sync, all_of_sync}
use Rattle.project_journal.proofs.memory_disk.MemoryDiskDisk.sync.Goals as goal

pub invariant_of-self-2 : goal.invariant_of-self-2
invariant_of-self-2 c = let p = c.note.ensures.past in record { whole = last_now c.args.self.now.start.value.items c.args.self.now.past.items c.note.new.past.items p.0 p.1 _ p.3 }

pub returns-clause-images : goal.returns-clause-images
returns-clause-images c = let p = c.note.ensures.past in no_more_sync c.args.self.now.start.value.items c.args.self.now.past.items c.note.new.past.items p.0 p.1 _ p.2 c.args.self.now.whole p.3

pub returns-clause-goes : goal.returns-clause-goes
returns-clause-goes c =
    let p = c.note.ensures.past in record {
      time = elapses c.args.self.now.start.value.items c.args.self.now.past.items c.note.new.past.items p.0 p.1;
      spends = search rules;
      counts = search rules;
    }

pub returns-clause-durable : goal.returns-clause-durable
returns-clause-durable c = let p = c.note.ensures.past in durable_sync c.args.self.now.start.value.items c.args.self.now.past.items c.note.new.past.items p.0 p.1 _ p.2 p.3

pub returns-in_err-answer-clause-listed : goal.returns-in_err-answer-clause-listed
returns-in_err-answer-clause-listed c =
    let disk = c.args.self.now in
    let failed : is_err c.answer.result ≡ is_err c.from_residual.result = ap is_err c.in_err-answer.was ∙ sym c.from_residual.ensures.0 in
    record {
      called =
          counted_is disk.fails.items c.deref.result.now disk.calls c.next_fail-fail.result c.answer.result c.deref.ensures.value c.next_fail-fail.ensures.listed c.answer.ensures.ok
          c.next_fail-fail.new.calls disk.faults c.answer.new.faults (is_err c.from_residual.result) failed c.next_fail-fail.ensures.counted c.answer.ensures.one c.answer.ensures.none;
      list = refl;
    }

pub returns-clause-listed : goal.returns-clause-listed
returns-clause-listed c =
    let disk = c.args.self.now in record {
      called =
          counted_is disk.fails.items c.deref.result.now disk.calls c.next_fail-fail.result c.answer.result c.deref.ensures.value c.next_fail-fail.ensures.listed c.answer.ensures.ok
          c.next_fail-fail.new.calls disk.faults c.answer.new.faults false (ap is_err c.in_ok-answer.was) c.next_fail-fail.ensures.counted c.answer.ensures.one c.answer.ensures.none;
      list = refl;
    }

pub returns-clause-exact : goal.returns-clause-exact
returns-clause-exact c =
    let disk = c.args.self.now in
    let p = c.note.ensures.past in record {
      bytes = refl;
      durable = λ ok. all_of_sync disk.start.value.items disk.past.items c.note.new.past.items p.0 p.1 disk.bytes.items p.2 p.3;
      refused = λ failed. absurd (true≢false (sym failed));
    }
