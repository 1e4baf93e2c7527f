use Rattle.std.proofs.Common.{◌∙◌, ap, sym, refl, subst, Some, bytes_eq, Result, Ok, Err}
use Rattle.std.specs.List.{list_any}
use Rattle.std.specs.Result.{OnErr}
use Rattle.named_disks.specs.MemoryNames.{HaveNames}
use Rattle.named_disks.proofs.DiskLemmas.{found_at, has_at}
use Rattle.named_disks.proofs.NameLemmas.{keep, stored_first, stored_same, noted, noted_other, noted_names}
use Rattle.named_disks.proofs.memory_disks.MemoryDisksDisks.make.Goals as goal

whatever : {T E : Type 0} (r : Result T E) (P : Type 0) → P → OnErr r P
whatever (Ok x) P p = tt
whatever (Err e) P p = p

pub returns-in_err-place-clause-others : goal.returns-in_err-place-clause-others
returns-in_err-place-clause-others c =
    keep _ c.args.self.now.disks.items c.place_for.new.disks.items c.args.self.now.out.items c.args.self.now.out.items (λ name _. c.place_for.ensures.same name) (λ name differ. c.place_for.ensures.has name differ) (λ name _. refl)

pub returns-in_err-place-clause-refused : goal.returns-in_err-place-clause-refused
returns-in_err-place-clause-refused c =
    whatever c.from_residual.result _ (ap Some (stored_same c.args.self.now.disks.items c.place_for.new.disks.items c.args.name.now (c.place_for.ensures.same c.args.name.now)), c.requires)

pub returns-in_err-note-clause-others : goal.returns-in_err-note-clause-others
returns-in_err-note-clause-others c =
    keep _ c.args.self.now.disks.items c.place_for.new.disks.items c.args.self.now.out.items c.note.new.out.items (λ name _. c.place_for.ensures.same name) (λ name differ. c.place_for.ensures.has name differ)
    (λ name _. ap (list_any (bytes_eq name)) c.in_err-note.ensures.same)

pub returns-in_err-note-clause-refused : goal.returns-in_err-note-clause-refused
returns-in_err-note-clause-refused c =
    whatever c.from_residual-in_err-note.result _
    (ap Some (stored_same c.args.self.now.disks.items c.place_for.new.disks.items c.args.name.now (c.place_for.ensures.same c.args.name.now)), ap (list_any (bytes_eq c.args.name.now)) c.in_err-note.ensures.same ∙ c.requires)

pub invariant_of-self-2 : goal.invariant_of-self-2
invariant_of-self-2 c =
    let names = c.place_for.ensures.names c.args.self.now.out.items c.args.self.now.known in
    let has = has_at c.place_for.new.disks.items c.args.name.now c.in_ok-place.place (found_at c.place_for.new.disks.items c.args.name.now c.in_ok-place.place c.in_ok-place.ensures.place) in
    record { known = c.exchange.ensures.names c.note.new.out.items (subst (HaveNames c.place_for.new.disks.items) (sym c.in_ok-note.ensures.noted) (noted_names c.place_for.new.disks.items c.args.self.now.out.items c.args.name.now names has)) }

pub returns-clause-reads : goal.returns-clause-reads
returns-clause-reads c =
    ap Some (c.exchange.ensures.taken c.args.name.now c.in_ok-place.ensures.place ∙ c.place_for.ensures.same c.args.name.now ∙ sym (stored_first c.args.self.now.disks.items c.args.name.now))

pub returns-clause-handed_out : goal.returns-clause-handed_out
returns-clause-handed_out c = ap (list_any (bytes_eq c.args.name.now)) c.in_ok-note.ensures.noted ∙ noted c.args.self.now.out.items c.args.name.now

pub returns-clause-others : goal.returns-clause-others
returns-clause-others c =
    keep _ c.args.self.now.disks.items c.exchange.new.disks.items c.args.self.now.out.items c.note.new.out.items
    (λ other differ. c.exchange.ensures.others c.args.name.now other c.in_ok-place.ensures.place differ ∙ c.place_for.ensures.same other)
    (λ other differ. c.exchange.ensures.has other ∙ c.place_for.ensures.has other differ)
    (λ other differ. ap (list_any (bytes_eq other)) c.in_ok-note.ensures.noted ∙ noted_other c.args.self.now.out.items c.args.name.now other differ)
