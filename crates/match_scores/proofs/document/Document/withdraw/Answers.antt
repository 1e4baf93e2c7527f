use Rattle.std.proofs.Common.{◌≡◌, List, Option, None, length, length-set, set, sym, ap, ◌∙◌}
use Rattle.std.proofs.lemmas.List.{with_items_is}
use Rattle.match_scores.specs.declared.layer_in_table.Marks.{Marks}
use Rattle.match_scores.proofs.DocumentLemmas.{marked_same, seat_enough, seat_room, seat_shifts, will}
use Rattle.match_scores.proofs.document.Document.withdraw.Goals as goal

pub seat-requires-clause-enough : goal.seat-requires-clause-enough
seat-requires-clause-enough c =
    seat_enough c.self.inside.table c.differ.ensures c.args.raters c.self.inside.layers.items c.args.self.now c.self.inside.marks.items c.as_mut_slice.result.now c.self.invariant c.self.view_is c.as_mut_slice.ensures.value c.requires.long
    c.args.totals.now c.requires.enough

pub seat-requires-clause-room : goal.seat-requires-clause-room
seat-requires-clause-room c =
    seat_room c.self.inside.table c.differ.ensures c.args.raters c.self.inside.layers.items c.args.self.now c.self.inside.marks.items c.as_mut_slice.result.now c.self.invariant c.self.view_is c.as_mut_slice.ensures.value c.requires.long
    c.args.rater None None c.requires.rater_in tt c.args.totals.now c.requires.room

pub invariant_of-self : goal.invariant_of-self
invariant_of-self c =
    let v = c.self.inside.marks in
    let rater = c.args.rater in
    let layers = c.self.inside.layers.items in
    let now : c.seat.new.marks ≡ set v.items rater None = c.seat.ensures.marks ∙ ap (λ (l : List (Option Marks)). set l rater None) c.as_mut_slice.ensures.value in
    let size : length c.seat.new.marks ≡ v.len = ap (λ (l : List (Option Marks)). length l) now ∙ length-set v.items rater None ∙ sym v.ok.0 in
    marked_same c.self.inside.table (set layers rater None) _ (set v.items rater None) _ (ap (set layers rater) c.take.ensures.after) (with_items_is v c.seat.new.marks size ∙ now)
    (will c.self.inside.table c.differ.ensures c.args.raters layers c.args.self.now v.items c.as_mut_slice.result.now c.self.invariant c.self.view_is c.as_mut_slice.ensures.value c.requires.long rater None None c.requires.rater_in tt)

pub returns-clause-shifts : goal.returns-clause-shifts
returns-clause-shifts c =
    seat_shifts c.self.inside.table c.differ.ensures c.args.raters c.self.inside.layers.items c.args.self.now c.self.inside.marks.items c.as_mut_slice.result.now c.self.invariant c.self.view_is c.as_mut_slice.ensures.value c.requires.long
    c.args.rater None None c.requires.rater_in tt c.args.totals.now c.seat.new.totals c.seat.new.marks _ c.seat.ensures.marks (ap (set c.self.inside.layers.items c.args.rater) c.take.ensures.after) c.seat.ensures.moves
