use Rattle.std.proofs.Common.{rules, ◌∙◌, refl, sym, ap, is_err, if◌then◌else◌}
use Rattle.project_journal.specs.MemoryDisks.{resized}
use Rattle.project_journal.proofs.DiskCalls.{counted_is, acts_is}
use Rattle.project_journal.proofs.PastLemmas.{last_now, elapses, follows_cut, all_of_cut}
use Rattle.project_journal.proofs.memory_disk.MemoryDiskDisk.cut.Goals as goal

pub invariant_of-self : goal.invariant_of-self
invariant_of-self c = let p = c.note.ensures.past in record { whole = last_now c.args.self.now.start.value.items c.args.self.now.past.items c.note.new.past.items p.0 p.1 _ p.3 }

pub returns-clause-images : goal.returns-clause-images
returns-clause-images c = let p = c.note.ensures.past in follows_cut c.args.self.now.start.value.items c.args.self.now.past.items c.note.new.past.items p.0 p.1 c.args.len _ _ p.2 c.args.self.now.whole p.3 c.cut_unless.ensures.resized

pub returns-clause-goes : goal.returns-clause-goes
returns-clause-goes c =
    let p = c.note.ensures.past in record {
      time = elapses c.args.self.now.start.value.items c.args.self.now.past.items c.note.new.past.items p.0 p.1;
      spends = search rules;
      counts = search rules;
    }

pub returns-clause-listed : goal.returns-clause-listed
returns-clause-listed c =
    let disk = c.args.self.now in record {
      called = counted_is disk.fails.items c.deref.result.now disk.calls c.next_fail-fail.result c.answer.result c.deref.ensures.value c.next_fail-fail.ensures.listed c.answer.ensures.ok
          c.next_fail-fail.new.calls disk.faults c.answer.new.faults (is_err c.answer.result) refl c.next_fail-fail.ensures.counted c.answer.ensures.one c.answer.ensures.none;
      list = refl;
    }

pub returns-clause-exact : goal.returns-clause-exact
returns-clause-exact c =
    let disk = c.args.self.now in
    let p = c.note.ensures.past in record {
      bytes =
          c.cut_unless.ensures.exact
          ∙ ap (λ b. if b then resized c.args.len disk.bytes.items else disk.bytes.items)
          (sym (acts_is disk.fails.items c.deref.result.now disk.calls c.next_fail-fail.result c.answer.result c.deref.ensures.value c.next_fail-fail.ensures.listed c.answer.ensures.ok c.next_fail-fail.ensures.past));
      images = all_of_cut disk.start.value.items disk.past.items c.note.new.past.items p.0 p.1 c.args.len c.cut_unless.new.bytes.items p.2 p.3;
    }
