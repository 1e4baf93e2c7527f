use Rattle.std.proofs.Common.{◌≡◌, ◌<◌, ◌+◌, ◌++◌, arith, length, map, slice_get}
use Rattle.layer_model.specs.Snapshots.{row_of}
use Rattle.project_state.specs.Lending.{finished_part}
use Rattle.project_state.proofs.FrontLemmas.{behind_annotator, behind_curator}
use Rattle.project_state.proofs.finished_layers.finished_of.Goals as goal
use Rattle.project_state.proofs.finished_layers.finished_of.Goals.{then-not-person+in_ok-push_finished, else-not-person}

pub loop-person-preserved : goal.loop-person-preserved
loop-person-preserved c =
    let within : c.loop-person.person-index < length c.args.people.now = omega arith in
    elim c.if-not-person.branch [
      | then-not-person+in_ok-push_finished w ↦
          let more : map row_of c.if-not-person.layers.items ≡ map row_of c.loop-person.layers.items ++ finished_part c.person-item.result.name (slice_get c.args.document.now.rows c.loop-person.rater) = rw (w.layers-is, ← w.row.ensures) w.in_ok-push_finished.ensures in
          let next : c.if-not-person.rater ≡ c.loop-person.rater + 1 = w.rater-is in
          behind_annotator c.args.people.now c.args.document.now.rows c.loop-person.person-index c.person-item.result (map row_of c.loop-person.layers.items) (map row_of c.if-not-person.layers.items) c.loop-person.rater c.if-not-person.rater within c.person-item.is w.if-not-person.true more next c.loop-person.invariant
      | else-not-person w ↦
          let same : map row_of c.if-not-person.layers.items ≡ map row_of c.loop-person.layers.items = rw w.layers-is in
          let next : c.if-not-person.rater ≡ c.loop-person.rater = w.rater-is in
          behind_curator c.args.people.now c.args.document.now.rows c.loop-person.person-index c.person-item.result (map row_of c.loop-person.layers.items) (map row_of c.if-not-person.layers.items) c.loop-person.rater c.if-not-person.rater within c.person-item.is w.if-not-person.false same next c.loop-person.invariant
    ]
