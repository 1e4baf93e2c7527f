use Rattle.std.proofs.Common.{length}
use Rattle.checkpoint.proofs.lines.layer_of.Goals as goal

pub returns-then-branch-clause-whole : goal.returns-then-branch-clause-whole
returns-then-branch-clause-whole c =
    let well = rw c.in-Some.is at c.in_ok-layer.ensures.well in
    c.well_formed_layers_cohere.ensures c.args.conf.now (length c.args.doc.now) c.in-Some.layer c.keeps.ensures well
