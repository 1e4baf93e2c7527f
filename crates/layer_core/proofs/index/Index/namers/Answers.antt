use Rattle.std.proofs.Common.{◌++◌, sym, ◌∙◌, ap, append-nil}
use Rattle.layer_core.specs.Indexes.{namers_among}
use Rattle.layer_core.proofs.IndexLemmas.{namers_are}
use Rattle.layer_core.proofs.index.Index.namers.Goals as goal

pub returns : goal.returns
returns c =
    sym (append-nil c.loop-place.ids.items)
    ∙ sym (ap (λ r. c.loop-place.ids.items ++ namers_among c.args.but c.args.layer.now c.args.id r) c.in-None.ensures.steps.0)
    ∙ c.loop-place.invariant
    ∙ namers_are c.args.but c.args.layer.now c.args.id c.args.self.now.namers c.rank-named.result c.into_iter-place-iterator.result c.keeps.ensures c.requires.namers
    c.range-place-items.ensures.ordered c.rank-named.ensures
    (c.into_iter-place-iterator.ensures.into_iter_gives ∙ c.range-place-items.ensures.between tt)
