use Rattle.std.proofs.Common.{◌∙◌, ap, is_some}
use Rattle.conf_model.specs.ConfFaults.{is_among, names_of}
use Rattle.annotation_conf.proofs.FaultNames.{found_among}
use Rattle.annotation_conf.proofs.known_names.Names.has.Goals as goal

pub returns : goal.returns
returns c =
    c.contains_key.ensures ∙ ap is_some (c.self.invariant.finds c.args.name.now) ∙ found_among 0 _ c.args.name.now
    ∙ ap (λ all. is_among (names_of all) c.args.name.now) c.self.view_is
