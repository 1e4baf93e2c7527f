use Rattle.curator_decisions.proofs.ItemSteps.{by_items, taking_back_by_item, verdicts_by_item}
use Rattle.curator_decisions.proofs.curated_laws.decisions_are_judged_by_items.Goals as goal

pub returns-clause-obeys : goal.returns-clause-obeys
returns-clause-obeys c = by_items c.well_formed_layers_cohere.ensures

pub returns-clause-decide : goal.returns-clause-decide
returns-clause-decide c = verdicts_by_item c.well_formed_layers_cohere.ensures c.unflawed_layers.ensures.well_formed c.unflawed_layers.ensures.unflawed

pub returns-clause-undecide : goal.returns-clause-undecide
returns-clause-undecide c = taking_back_by_item c.well_formed_layers_cohere.ensures c.unflawed_layers.ensures.well_formed c.unflawed_layers.ensures.unflawed
