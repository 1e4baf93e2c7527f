use Rattle.std.proofs.Common.{Some, ◌∙◌, ap}
use Rattle.project_machine.specs.declared.doc_line.DocLine.{DocLine}
use Rattle.project_machine.specs.ProjectState.{Document, document}
use Rattle.project_state.proofs.EntriesProofs.ParkLemmas.{read_for, park_same}
use Rattle.project_state.proofs.entries.asked.park_asked.Goals as goal

pub returns : goal.returns
returns c =
    let s = c.args.state.now.state in
    let d = document s c.args.doc in
    let here = c.in-Some.ensures.here in
    let read =
    read_for c.deref-2.result.now s.conf c.deref.result.now d.text c.args.commands.now c.in_ok-scripts.field-0 (Some c.in-Some-2.scripts)
    (c.deref-2.ensures ∙ c.conf.ensures)
    (c.deref.ensures ∙ (c.text.ensures ∙ ap (λ (x : Document). x.text) here))
    c.in-Some-2.is c.in_ok-scripts.ensures in
    λ done undone within typed can e short.
    park_same c.in_ok-copy.field-0 c.args.by.now c.in_ok-line.field-0.name d.name c.args.hold c.in-Some-2.scripts.done done c.in-Some-2.scripts.undone undone
    c.in_ok-copy.ensures
    (ap (λ (l : DocLine). l.name) c.in_ok-line.ensures ∙ ap (λ (x : Document). x.name) here)
    (read done undone typed can e short)
