use Rattle.std.proofs.Common.{◌≡◌, List, Option, Some, length, length-set, set, sym, ap, ◌∙◌}
use Rattle.std.proofs.lemmas.List.{with_items_is}
use Rattle.match_scores.specs.declared.layer_in_table.Marks.{Marks}
use Rattle.match_scores.specs.Places.{AreMarked, AreMarks}
use Rattle.match_scores.proofs.DocumentLemmas.{marked_same, seat_enough, seat_room, seat_shifts, will}
use Rattle.match_scores.proofs.MarkLemmas.{marked_kept}
use Rattle.match_scores.proofs.document.Document.post.Goals as goal

pub invariant_of-self : goal.invariant_of-self
invariant_of-self c = marked_kept c.self.inside.table c.marks_of.new.table c.marks_of.ensures.grown c.self.inside.layers.items c.self.inside.marks.items c.self.invariant

pub seat-requires-clause-enough : goal.seat-requires-clause-enough
seat-requires-clause-enough c =
    let layers = c.self.inside.layers.items in
    let marks = c.self.inside.marks.items in
    let table = c.marks_of.new.table in
    let are : AreMarked table layers marks = marked_kept c.self.inside.table table c.marks_of.ensures.grown layers marks c.self.invariant in
    let same : layers ≡ c.args.self.now = c.self.view_is ∙ c.make_room.ensures in
    seat_enough table c.differ.ensures c.args.raters layers c.args.self.now marks c.as_mut_slice.result.now are same c.as_mut_slice.ensures.value c.requires.long
    c.args.totals.now c.requires.enough

pub seat-requires-clause-room : goal.seat-requires-clause-room
seat-requires-clause-room c =
    let layers = c.self.inside.layers.items in
    let marks = c.self.inside.marks.items in
    let table = c.marks_of.new.table in
    let are : AreMarked table layers marks = marked_kept c.self.inside.table table c.marks_of.ensures.grown layers marks c.self.invariant in
    let same : layers ≡ c.args.self.now = c.self.view_is ∙ c.make_room.ensures in
    let here : AreMarks table c.args.layer.now c.in_ok-marks.marks = c.in_ok-marks.ensures.marks in
    seat_room table c.differ.ensures c.args.raters layers c.args.self.now marks c.as_mut_slice.result.now are same c.as_mut_slice.ensures.value c.requires.long
    c.args.rater (Some c.args.layer.now) (Some c.in_ok-marks.marks) c.requires.rater_in here c.args.totals.now (λ a b sort part h k. c.requires.room a b sort part h k here.few)

pub invariant_of-self-2 : goal.invariant_of-self-2
invariant_of-self-2 c =
    let v = c.self.inside.marks in
    let rater = c.args.rater in
    let layers = c.self.inside.layers.items in
    let table = c.marks_of.new.table in
    let m : Option Marks = Some c.in_ok-marks.marks in
    let are : AreMarked table layers v.items = marked_kept c.self.inside.table table c.marks_of.ensures.grown layers v.items c.self.invariant in
    let same : layers ≡ c.args.self.now = c.self.view_is ∙ c.make_room.ensures in
    let here : AreMarks table c.args.layer.now c.in_ok-marks.marks = c.in_ok-marks.ensures.marks in
    let now : c.seat.new.marks ≡ set v.items rater m = c.seat.ensures.marks ∙ ap (λ (l : List (Option Marks)). set l rater m) c.as_mut_slice.ensures.value in
    let size : length c.seat.new.marks ≡ v.len = ap (λ (l : List (Option Marks)). length l) now ∙ length-set v.items rater m ∙ sym v.ok.0 in
    marked_same table (set layers rater (Some c.args.layer.now)) _ (set v.items rater m) _ (ap (λ x. set layers rater (Some x)) c.in_ok-copy.ensures) (with_items_is v c.seat.new.marks size ∙ now)
    (will table c.differ.ensures c.args.raters layers c.args.self.now v.items c.as_mut_slice.result.now are same c.as_mut_slice.ensures.value c.requires.long rater (Some c.args.layer.now) m c.requires.rater_in here)

pub returns-clause-shifts : goal.returns-clause-shifts
returns-clause-shifts c =
    let layers = c.self.inside.layers.items in
    let marks = c.self.inside.marks.items in
    let table = c.marks_of.new.table in
    let are : AreMarked table layers marks = marked_kept c.self.inside.table table c.marks_of.ensures.grown layers marks c.self.invariant in
    let same : layers ≡ c.args.self.now = c.self.view_is ∙ c.make_room.ensures in
    let here : AreMarks table c.args.layer.now c.in_ok-marks.marks = c.in_ok-marks.ensures.marks in
    seat_shifts table c.differ.ensures c.args.raters layers c.args.self.now marks c.as_mut_slice.result.now are same c.as_mut_slice.ensures.value c.requires.long
    c.args.rater (Some c.args.layer.now) (Some c.in_ok-marks.marks) c.requires.rater_in here c.args.totals.now c.seat.new.totals c.seat.new.marks _ c.seat.ensures.marks (ap (λ x. set layers c.args.rater (Some x)) c.in_ok-copy.ensures) c.seat.ensures.moves
