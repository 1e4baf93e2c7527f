use Rattle.std.proofs.Common.{None}
use Rattle.layer_model.specs.Classes.{joined}
use Rattle.layer_model.specs.Layers.{with_classes}
use Rattle.layer_core.specs.Indexes.{IsIndex}
use Rattle.layer_core.proofs.BackStepLemmas.{index_with}
use Rattle.layer_core.proofs.WorkLemmas.{kept_either}
use Rattle.layer_core.proofs.ways_back.join.Goals as goal

pub returns-clause-index : goal.returns-clause-index
returns-clause-index c = λ index is.
    kept_either (λ l. IsIndex None l index) c.join.result c.args.layer.now (with_classes c.args.layer.now (joined c.args.kind c.args.members c.args.layer.now.classes)) c.join.new.self c.join.ensures.ok c.join.ensures.err is
    (index_with c.args.layer.now (joined c.args.kind c.args.members c.args.layer.now.classes) None index is)
