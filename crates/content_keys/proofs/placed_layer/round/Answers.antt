use Rattle.std.proofs.Common.{◌≡◌, true, false, sym, ◌∙◌}
use Rattle.content_keys.specs.Places.{IsOfMark}
use Rattle.content_keys.proofs.OnlyLemmas.{only_then}
use Rattle.content_keys.proofs.PlacedLemmas.{places_end, places_step, rounds_end, rounds_step}
use Rattle.content_keys.proofs.StartLemmas.{starts_trans}
use Rattle.content_keys.proofs.placed_layer.round.Goals as goal
use Rattle.content_keys.proofs.placed_layer.round.Goals.{then-waiting, else-waiting}

pub loop-id-preserved : goal.loop-id-preserved
loop-id-preserved c = record {
  right = c.in_ok-waiting.ensures.right;
  rounds =
      rounds_step c.args.layer.now c.args.ids.now c.args.places.now c.loop-id.places c.try_place.new.places c.loop-id.id-index c.id-item.result c.loop-id.invariant.rounds c.id-item.is c.loop-id-test.true c.in_ok-waiting.ensures.keeps
      c.in_ok-waiting.ensures.here;
  grown = starts_trans c.args.table.now c.loop-id.table c.try_place.new.table c.loop-id.invariant.grown c.try_place.ensures.grown;
  only = only_then (IsOfMark c.args.layer.now) c.args.table.now c.loop-id.table c.try_place.new.table c.try_place.ensures.grown c.loop-id.invariant.only c.try_place.ensures.only;
  placed = λ e. elim c.if-waiting.branch [
    | then-waiting w ↦ absurd (let f : true ≡ false = sym w.waits-is ∙ e in cc)
    | else-waiting w ↦
        places_step c.args.layer.now c.args.ids.now c.loop-id.places c.try_place.new.places c.loop-id.id-index c.id-item.result (c.loop-id.invariant.placed (sym w.waits-is ∙ e)) c.id-item.is c.loop-id-test.true c.in_ok-waiting.ensures.keeps
        (c.in_ok-waiting.ensures.settled w.if-waiting.false)
  ];
}

pub returns-in_err-waiting-clause-only : goal.returns-in_err-waiting-clause-only
returns-in_err-waiting-clause-only c = only_then (IsOfMark c.args.layer.now) c.args.table.now c.loop-id.table c.try_place.new.table c.try_place.ensures.grown c.loop-id.invariant.only c.try_place.ensures.only

pub returns-clause-only : goal.returns-clause-only
returns-clause-only c = c.loop-id.invariant.only

pub returns-clause-deeper : goal.returns-clause-deeper
returns-clause-deeper c = rounds_end c.args.layer.now c.args.ids.now c.args.places.now c.loop-id.places c.loop-id.id-index c.loop-id.invariant.rounds c.requires.all c.loop-id-test.false

pub returns-clause-settled : goal.returns-clause-settled
returns-clause-settled c = λ e. places_end c.args.layer.now c.args.ids.now c.loop-id.places c.loop-id.id-index (c.loop-id.invariant.placed e) c.requires.all c.loop-id-test.false
