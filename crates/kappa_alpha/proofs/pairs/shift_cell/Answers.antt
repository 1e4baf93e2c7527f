use Rattle.std.proofs.Common.{◌≡◌, ◌≤◌, ◌+◌, ◌^◌, arith}
use Rattle.label_tracks.specs.Grid.{cell_of}
use Rattle.kappa_alpha.specs.Pairs.{pair_cell}
use Rattle.kappa_alpha.proofs.PairPlaces.{pair_shifted, cell_read}
use Rattle.kappa_alpha.proofs.pairs.shift_cell.Goals as goal

pub shift-requires-clause-enough : goal.shift-requires-clause-enough
shift-requires-clause-enough g c =
    let e : cell_of c.index-grids-met.result c.args.met.c c.args.met.k ≡ pair_cell c.args.raters c.args.grids.now c.args.met.a c.args.met.b c.args.met.c c.args.met.k = cell_read c.args.grids.now c.args.raters c.args.width c.args.met.a c.args.met.b c.args.met.c c.args.met.k c.index-grids-met.result c.requires.a_in c.requires.b_in c.requires.fit c.index-grids-met.is in
    let r : c.args.before ≤ cell_of c.index-grids-met.result c.args.met.c c.args.met.k = omega (arith, e, c.requires.enough) in
    rw (← c.index-grids-met.is) r

pub shift-requires-clause-room : goal.shift-requires-clause-room
shift-requires-clause-room g c =
    let e : cell_of c.index-grids-met.result c.args.met.c c.args.met.k ≡ pair_cell c.args.raters c.args.grids.now c.args.met.a c.args.met.b c.args.met.c c.args.met.k = cell_read c.args.grids.now c.args.raters c.args.width c.args.met.a c.args.met.b c.args.met.c c.args.met.k c.index-grids-met.result c.requires.a_in c.requires.b_in c.requires.fit c.index-grids-met.is in
    let r : cell_of c.index-grids-met.result c.args.met.c c.args.met.k + c.args.after ≤ 2 ^ 62 = omega (arith, e, c.requires.room) in
    rw (← c.index-grids-met.is) r

pub returns-clause-each : goal.returns-clause-each
returns-clause-each g c =
    pair_shifted c.args.grids.now c.args.raters c.args.width c.args.met.a c.args.met.b c.args.met.c c.args.met.k c.args.before c.args.after c.index-grids-met.result c.shift.new.grid c.requires.a_in c.requires.b_in c.requires.fit c.index-grids-met.is
    (rw (← c.index-grids-met.is) at c.shift.ensures.each)
