use Rattle.std.proofs.Common.{◌∙◌, ap, sym, refl, subst, Some, None, bytes_eq, Result, Ok, Err}
use Rattle.std.specs.List.{list_any}
use Rattle.std.specs.Result.{OnErr}
use Rattle.named_disks.specs.MemoryNames.{HaveNames}
use Rattle.named_disks.proofs.DiskLemmas.{found_at, has_at}
use Rattle.named_disks.proofs.NameLemmas.{keep, lent, stored_first, noted, noted_other, noted_names, there_none, there_same}
use Rattle.named_disks.proofs.memory_disks.MemoryDisksDisks.disk.Goals as goal

whatever : {T E : Type 0} (r : Result T E) (P : Type 0) → P → OnErr r P
whatever (Ok x) P p = tt
whatever (Err e) P p = p

pub returns-in_default-clause-absent : goal.returns-in_default-clause-absent
returns-in_default-clause-absent c = λ _.
    there_none c.args.self.now.disks.items c.args.name.now (lent c.args.self.now.disks.items c.deref.result.now c.args.name.now c.place_of.result None c.deref.ensures.value c.place_of.ensures c.in_default.is)

pub returns-in_err-note-clause-refused : goal.returns-in_err-note-clause-refused
returns-in_err-note-clause-refused c =
    whatever c.from_residual.result _
    (keep _ c.args.self.now.disks.items c.args.self.now.disks.items c.args.self.now.out.items c.note.new.out.items (λ name _. refl) (λ name _. refl) (λ name _. ap (list_any (bytes_eq name)) c.in_err-note.ensures.same))

pub invariant_of-self-2 : goal.invariant_of-self-2
invariant_of-self-2 c =
    let at = lent c.args.self.now.disks.items c.deref.result.now c.args.name.now c.place_of.result (Some c.in-Some.place) c.deref.ensures.value c.place_of.ensures c.in-Some.is in
    let has = has_at c.args.self.now.disks.items c.args.name.now c.in-Some.place (found_at c.args.self.now.disks.items c.args.name.now c.in-Some.place at) in
    record { known = c.exchange.ensures.names c.note.new.out.items (subst (HaveNames c.args.self.now.disks.items) (sym c.in_ok-note.ensures.noted) (noted_names c.args.self.now.disks.items c.args.self.now.out.items c.args.name.now c.args.self.now.known has)) }

pub returns-clause-reads : goal.returns-clause-reads
returns-clause-reads c =
    let at = lent c.args.self.now.disks.items c.deref.result.now c.args.name.now c.place_of.result (Some c.in-Some.place) c.deref.ensures.value c.place_of.ensures c.in-Some.is in
    ap Some (c.exchange.ensures.taken c.args.name.now at ∙ sym (stored_first c.args.self.now.disks.items c.args.name.now))

pub returns-clause-handed_out : goal.returns-clause-handed_out
returns-clause-handed_out c = ap (list_any (bytes_eq c.args.name.now)) c.in_ok-note.ensures.noted ∙ noted c.args.self.now.out.items c.args.name.now

pub returns-clause-none_made : goal.returns-clause-none_made
returns-clause-none_made c = there_same c.args.self.now.disks.items c.exchange.new.disks.items c.args.name.now (c.exchange.ensures.has c.args.name.now)

pub returns-clause-others : goal.returns-clause-others
returns-clause-others c =
    let at = lent c.args.self.now.disks.items c.deref.result.now c.args.name.now c.place_of.result (Some c.in-Some.place) c.deref.ensures.value c.place_of.ensures c.in-Some.is in
    keep _ c.args.self.now.disks.items c.exchange.new.disks.items c.args.self.now.out.items c.note.new.out.items
    (λ other differ. c.exchange.ensures.others c.args.name.now other at differ)
    (λ other differ. c.exchange.ensures.has other)
    (λ other differ. ap (list_any (bytes_eq other)) c.in_ok-note.ensures.noted ∙ noted_other c.args.self.now.out.items c.args.name.now other differ)
