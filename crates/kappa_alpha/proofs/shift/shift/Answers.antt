use Rattle.std.proofs.Common.{◌≡◌, ◌+◌, arith}
use Rattle.std.proofs.lemmas.Int.{ints}
use Rattle.label_tracks.specs.Grid.{cell_of}
use Rattle.kappa_alpha.proofs.Worth.{shifted_each}
use Rattle.kappa_alpha.proofs.shift.shift.Goals as goal

pub returns-clause-each : goal.returns-clause-each
returns-clause-each g c =
    let here : cell_of c.add.new.self c.args.c c.args.k + c.args.before ≡ cell_of c.args.grid.now c.args.c c.args.k + c.args.after = omega (arith, ints, c.add.ensures.here) in
    shifted_each (cell_of c.args.grid.now) (cell_of c.add.new.self) c.args.grid.now.width c.args.c c.args.k c.args.before c.args.after here c.add.ensures.elsewhere
