use Rattle.std.proofs.Common.{◌∙◌}
use Rattle.label_tracks.proofs.LevelLemmas.{heads_found, heads_found_few}
use Rattle.label_tracks.proofs.levels.heads.Goals as goal

found_heads : goal.returns-clause-heads
found_heads c =
    heads_found c.args.types.now c.args.level c.count.result c.in_ok-found.found.items c.as_slice.result.now c.count.ensures.value (c.as_slice.ensures.value ∙ c.in_ok-rolled.ensures.rolled) c.in_ok-found.ensures

pub returns-clause-heads : goal.returns-clause-heads
returns-clause-heads c = found_heads c

pub returns-clause-few : goal.returns-clause-few
returns-clause-few c =
    heads_found_few c.args.types.now c.args.level c.in_ok-found.found.items c.in_ok-rolled.rolled.items c.in_ok-rolled.ensures.rolled c.in_ok-rolled.ensures.few (found_heads c)
