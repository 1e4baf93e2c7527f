use Rattle.std.proofs.Common.{◌≡◌, ◌+◌, ◌<◌, set, length, None, get_or, sym, ap, ◌∙◌, arith}
use Rattle.std.proofs.lemmas.List.{get_or_default, set-get_or, set-set}
use Rattle.match_scores.specs.Places.{marks_at, met}
use Rattle.match_scores.specs.Tallies.{cell}
use Rattle.match_scores.proofs.totals.seat.Goals as goal

pub returns-clause-marks : goal.returns-clause-marks
returns-clause-marks c = set-set c.args.marks.now c.args.rater c.take-before.new.self c.args.after

pub returns-clause-moves : goal.returns-clause-moves
returns-clause-moves c = λ a b sort part h k.
    let marks = c.args.marks.now in
    let rater = c.args.rater in
    let inside : rater < length marks = omega (arith, c.requires.long, c.requires.rater_in) in
    let was : c.take-before.result ≡ get_or marks rater None = c.take-before.ensures.value ∙ get_or_default marks rater c.index-marks-rater.result None inside in
    let same : set (set marks rater c.take-before.new.self) rater c.take-before.result ≡ marks =
    set-set marks rater c.take-before.new.self c.take-before.result ∙ ap (set marks rater) was ∙ set-get_or marks rater None in
    ap (λ l. cell c.args.raters c.shift.new.totals a b sort part + met sort part (marks_at l a) (marks_at l b)) (sym same) ∙ c.shift.ensures a b sort part h k
