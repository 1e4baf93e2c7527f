use Rattle.std.proofs.Common.{◌<◌, ◌+◌, ap, ◌∙◌, arith}
use Rattle.match_scores.specs.Tallies.{cell, read}
use Rattle.match_scores.proofs.MarkLemmas.{cell_here, cell_other}
use Rattle.match_scores.proofs.totals.move_pair.Goals as goal

pub moved-requires-clause-enough : goal.moved-requires-clause-enough
unfolding cell
moved-requires-clause-enough c = c.requires.enough

pub moved-requires-clause-room : goal.moved-requires-clause-room
unfolding cell
moved-requires-clause-room c = c.requires.room

pub returns-clause-here : goal.returns-clause-here
unfolding cell
returns-clause-here c = λ sort part.
    let ha : c.args.a < c.args.raters = omega (arith, c.requires.apart, c.requires.b_in) in
    ap (λ n. n + read c.args.less sort part) (cell_here c.args.raters c.args.totals.now c.args.a c.args.b c.moved.result sort part c.requires.square ha c.requires.b_in) ∙ c.moved.ensures sort part

pub returns-clause-rest : goal.returns-clause-rest
returns-clause-rest c = λ p q sort part h k ne. cell_other c.args.raters c.args.totals.now c.args.a c.args.b p q c.moved.result sort part c.requires.b_in k ne
