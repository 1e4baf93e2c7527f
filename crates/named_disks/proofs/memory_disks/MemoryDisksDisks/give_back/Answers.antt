use Rattle.std.proofs.Common.{◌∙◌, ap, sym, refl, Some, None, bytes_eq}
use Rattle.std.specs.List.{list_any}
use Rattle.named_disks.proofs.DiskLemmas.{at_some}
use Rattle.named_disks.proofs.NameLemmas.{keep, lent, stored_first, struck, struck_other, struck_known, there_same}
use Rattle.named_disks.proofs.memory_disks.MemoryDisksDisks.give_back.Goals as goal

pub invariant_of-self : goal.invariant_of-self
invariant_of-self c = record { known = c.exchange.ensures.names c.strike.new.out.items (struck_known c.args.self.now.disks.items c.args.self.now.out.items c.strike.new.out.items c.args.name.now c.strike.ensures c.args.self.now.known) }

pub invariant_of-self-in-None-1 : goal.invariant_of-self-in-None-1
invariant_of-self-in-None-1 c = record { known = struck_known c.args.self.now.disks.items c.args.self.now.out.items c.strike.new.out.items c.args.name.now c.strike.ensures c.args.self.now.known }

pub returns-in-Some-clause-reads : goal.returns-in-Some-clause-reads
returns-in-Some-clause-reads c =
    let at = lent c.args.self.now.disks.items c.deref.result.now c.args.name.now c.place_of.result (Some c.in-Some.place) c.deref.ensures.value c.place_of.ensures c.in-Some.is in
    ap Some (sym (stored_first c.exchange.new.disks.items c.args.name.now ∙ c.exchange.ensures.put c.args.name.now at))

pub returns-in-Some-clause-taken_back : goal.returns-in-Some-clause-taken_back
returns-in-Some-clause-taken_back c = ap (list_any (bytes_eq c.args.name.now)) c.strike.ensures ∙ struck c.args.self.now.out.items c.args.name.now

pub returns-in-Some-clause-others : goal.returns-in-Some-clause-others
returns-in-Some-clause-others c =
    let at = lent c.args.self.now.disks.items c.deref.result.now c.args.name.now c.place_of.result (Some c.in-Some.place) c.deref.ensures.value c.place_of.ensures c.in-Some.is in
    keep _ c.args.self.now.disks.items c.exchange.new.disks.items c.args.self.now.out.items c.strike.new.out.items
    (λ other differ. c.exchange.ensures.others c.args.name.now other at differ)
    (λ other differ. c.exchange.ensures.has other)
    (λ other differ. ap (list_any (bytes_eq other)) c.strike.ensures ∙ struck_other c.args.self.now.out.items c.args.name.now other differ)

pub returns-in_default-clause-reads : goal.returns-in_default-clause-reads
returns-in_default-clause-reads c =
    let none = lent c.args.self.now.disks.items c.deref.result.now c.args.name.now c.place_of.result None c.deref.ensures.value c.place_of.ensures c.in_default.is in
    absurd (at_some c.args.self.now.disks.items c.args.name.now (c.args.self.now.known c.args.name.now c.requires) none)

pub returns-in_default-clause-taken_back : goal.returns-in_default-clause-taken_back
returns-in_default-clause-taken_back c = ap (list_any (bytes_eq c.args.name.now)) c.strike.ensures ∙ struck c.args.self.now.out.items c.args.name.now

pub returns-in_default-clause-others : goal.returns-in_default-clause-others
returns-in_default-clause-others c =
    keep _ c.args.self.now.disks.items c.args.self.now.disks.items c.args.self.now.out.items c.strike.new.out.items
    (λ other differ. refl)
    (λ other differ. refl)
    (λ other differ. ap (list_any (bytes_eq other)) c.strike.ensures ∙ struck_other c.args.self.now.out.items c.args.name.now other differ)

pub returns-in-Some-clause-none_made : goal.returns-in-Some-clause-none_made
returns-in-Some-clause-none_made c = there_same c.args.self.now.disks.items c.exchange.new.disks.items c.args.name.now (c.exchange.ensures.has c.args.name.now)
