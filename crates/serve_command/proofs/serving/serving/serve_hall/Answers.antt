use Rattle.std.proofs.Common.{◌≡◌, ◌<◌, length, arith}
use Rattle.serve_command.proofs.ServingProofs.WorkerLemmas.{all_have, have_still}
use Rattle.serve_command.proofs.serving.serving.serve_hall.Goals as goal

pub serve_all-requires-after_bounds : goal.serve_all-requires-after_bounds
serve_all-requires-after_bounds g c κs within = all_have c.args.hall.now.id c.give_passes.new.workers c.give_passes.ensures

pub join_passes-requires-clause-passes : goal.join_passes-requires-clause-passes
join_passes-requires-clause-passes g c =
    let some : 0 < length c.give_passes.new.workers = omega arith in
    let same : length c.serve_all.new.workers ≡ length c.give_passes.new.workers = omega arith in
    have_still g.D.Door.sure g.D.Door.endless c.args.hall.now.id c.give_passes.new.workers c.serve_all.new.workers some same c.give_passes.ensures c.serve_all.ensures
