use Rattle.std.proofs.Common.{◌∙◌, sym, ap, subst}
use Rattle.project_journal.specs.MemoryDisks.{bytes_of, FailsNoMore}
use Rattle.named_disks.proofs.DiskLemmas.{found_at, taken, put, others, has_names, keeps_names, taken_fails_no_more, fail_no_more}
use Rattle.named_disks.proofs.memory_disks.exchange.Goals as goal

pub returns-clause-taken : goal.returns-clause-taken
returns-clause-taken c name at =
    ap bytes_of c.replace.ensures.value ∙ taken c.args.disks.now.items c.args.place c.index_mut.result.now name (found_at c.args.disks.now.items name c.args.place at) c.index_mut.ensures.value

pub returns-clause-put : goal.returns-clause-put
returns-clause-put c name at =
    put c.args.disks.now.items c.args.place c.index_mut.result.now c.replace.new.dest name (found_at c.args.disks.now.items name c.args.place at) c.index_mut.ensures.value
    ∙ ap bytes_of c.replace.ensures.after

pub returns-clause-others : goal.returns-clause-others
returns-clause-others c name other at differ =
    others c.args.disks.now.items c.args.place c.index_mut.result.now c.replace.new.dest name other (found_at c.args.disks.now.items name c.args.place at) c.index_mut.ensures.value differ

pub returns-clause-names : goal.returns-clause-names
returns-clause-names c out known = keeps_names c.args.disks.now.items c.args.place c.index_mut.result.now c.replace.new.dest out c.index_mut.ensures.value known

pub returns-clause-faultless : goal.returns-clause-faultless
returns-clause-faultless c none = (
  subst FailsNoMore (sym c.replace.ensures.value) (taken_fails_no_more c.args.disks.now.items c.args.place c.index_mut.result.now c.requires c.index_mut.ensures.value none),
  λ fine. fail_no_more c.args.disks.now.items c.args.place c.index_mut.result.now c.replace.new.dest none (subst FailsNoMore (sym c.replace.ensures.after) fine),
)

pub returns-clause-has : goal.returns-clause-has
returns-clause-has c name = has_names c.args.disks.now.items c.args.place c.index_mut.result.now c.replace.new.dest name c.index_mut.ensures.value
