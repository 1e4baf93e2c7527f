use Rattle.std.proofs.Common.{◌≡◌, arith, ap}
use Rattle.label_tracks.specs.Grid.{Grid, cell_of}
use Rattle.label_tracks.proofs.Cells.{cells_apart}
use Rattle.label_tracks.proofs.grid.CountGrid.add.Goals as goal

pub returns-clause-elsewhere : goal.returns-clause-elsewhere
unfolding cell_of
returns-clause-elsewhere g c = λ x y hx hy h.
    let e : c.self.inside.width ≡ c.args.self.now.width = ap (λ (v : Grid). v.width) c.self.view_is in
    rw (← c.self.view_is) (cells_apart _ _ _ _ x y _ (omega (arith, e, c.requires.k_in)) (omega (arith, e, hy)) h)
