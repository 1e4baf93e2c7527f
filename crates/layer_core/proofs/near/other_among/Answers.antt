use Rattle.std.proofs.Common.{◌∙◌, ap, find, option_and_then}
use Rattle.layer_model.specs.Layers.{mark_at}
use Rattle.layer_core.specs.Commands.{other_than}
use Rattle.layer_core.proofs.NearOtherLemmas.{among_namers}
use Rattle.layer_core.proofs.near.other_among.Goals as goal

pub returns : goal.returns
returns g c =
    c.first_other.ensures
    ∙ ap (λ ids. option_and_then (λ mark. find (other_than (g.P.Pairs.told c.args.pairs.now) c.args.layer.now c.args.id mark) ids) (mark_at c.args.layer.now c.args.id)) (c.deref.ensures.value ∙ c.in_ok-ids.ensures)
    ∙ among_namers (g.P.Pairs.told c.args.pairs.now) c.args.layer.now c.args.id c.args.named c.requires.all
