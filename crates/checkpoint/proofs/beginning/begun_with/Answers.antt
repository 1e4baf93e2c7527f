use Rattle.std.proofs.Common.{◌≡◌, ◌<◌, ◌∙◌, List, true, ap, arith, sym}
use Rattle.std.specs.Arc.{arc_value}
use Rattle.entry_bytes.specs.declared.person.Person.{Person}
use Rattle.project_machine.specs.ProjectState.{ProjectState}
use Rattle.checkpoint.specs.declared.so_far.Part.TheVariants as part
use Rattle.checkpoint.specs.declared.so_far.SoFar.{SoFar}
use Rattle.checkpoint.specs.Projects.{begun}
use Rattle.checkpoint.specs.Reading.{is_placed}
use Rattle.checkpoint.proofs.beginning.begun_with.Goals as goal

pub returns : goal.returns
returns c =
    let a = c.args in
    let conf = arc_value c.in-Some.founding.conf in
    let told = rw c.in-Some.is at c.in_ok-founding.ensures.found in
    let placed : is_placed a.place a.documents a.snapshots ≡ true = sym c.is_placed.ensures ∙ c.if-not-is_placed.false in
    let low : a.level < 256 = omega arith in
    let state = c.begun.ensures ∙ ap (λ (p : List Person). begun a.place a.level p conf) told.1.0 in
    (conf, record { placed = placed; founding = told.0 a.level low; is = told.1.1 }, ap (λ (s : ProjectState). let o : SoFar = record { state = s; texts = a.documents; room = 16777216; shots = a.snapshots; part = part.Start } in o) state)
