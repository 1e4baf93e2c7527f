use Rattle.std.proofs.Common.{◌≡◌, ◌∙◌, ap, sym, Some, None, List, Option, ℕ}
use Rattle.named_disks.proofs.DiskLemmas.{found_at, taken}
use Rattle.named_disks.proofs.NameLemmas.{lent, stored_first, there_none}
use Rattle.named_disks.proofs.memory_disks.MemoryDisksDisks.look.Goals as goal

some_same : (one other : List ℕ) → ◌≡◌ {A = Option (List ℕ)} (Some one) (Some other) → one ≡ other
some_same one other e = cc

pub returns-in_ok-bytes-in-Some-clause-reads : goal.returns-in_ok-bytes-in-Some-clause-reads
returns-in_ok-bytes-in-Some-clause-reads c =
    let at = lent c.args.self.now.disks.items c.deref.result.now c.args.name.now c.place_of.result (Some c.in-Some.place) c.deref.ensures.value c.place_of.ensures c.in-Some.is in
    c.in_ok-bytes-in-Some.ensures
    ∙ sym (some_same _ _ (ap Some (stored_first c.args.self.now.disks.items c.args.name.now
    ∙ sym (taken c.args.self.now.disks.items c.in-Some.place c.index.result.now c.args.name.now (found_at c.args.self.now.disks.items c.args.name.now c.in-Some.place at) c.index.ensures)) ∙ c.bytes.ensures))

pub returns-in-None-clause-absent : goal.returns-in-None-clause-absent
returns-in-None-clause-absent c = λ _.
    there_none c.args.self.now.disks.items c.args.name.now (lent c.args.self.now.disks.items c.deref.result.now c.args.name.now c.place_of.result None c.deref.ensures.value c.place_of.ensures c.in-None.is)
