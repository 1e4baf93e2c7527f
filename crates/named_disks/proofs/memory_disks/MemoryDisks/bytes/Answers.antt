use Rattle.std.proofs.Common.{◌∙◌, ap, sym, Some}
use Rattle.named_disks.specs.MemoryNames.{place_of}
use Rattle.named_disks.proofs.DiskLemmas.{found_at, taken, none_first}
use Rattle.named_disks.proofs.NameLemmas.{stored_first}
use Rattle.named_disks.proofs.memory_disks.MemoryDisks.bytes.Goals as goal

pub returns-in-Some : goal.returns-in-Some
returns-in-Some c =
    ap Some (stored_first c.args.self.now.disks.items c.args.name.now
    ∙ sym (taken c.args.self.now.disks.items c.in-Some.place c.index.result.now c.args.name.now (found_at c.args.self.now.disks.items c.args.name.now c.in-Some.place (ap (λ disks. place_of disks c.args.name.now) (sym c.deref.ensures.value) ∙ sym c.place_of.ensures ∙ c.in-Some.is)) c.index.ensures))
    ∙ c.bytes.ensures

pub returns-in-None : goal.returns-in-None
returns-in-None c =
    ap Some (stored_first c.args.self.now.disks.items c.args.name.now ∙ none_first c.args.self.now.disks.items c.args.name.now (ap (λ disks. place_of disks c.args.name.now) (sym c.deref.ensures.value) ∙ sym c.place_of.ensures ∙ c.in-None.is))
