use Rattle.std.proofs.Common.{sym, ◌∙◌, ap, arith}
use Rattle.layer_model.specs.Layers.{has, has_number}
use Rattle.layer_core.proofs.DeskLemmas.{above, min_is}
use Rattle.layer_core.proofs.new_numbers.has_number.Goals as goal

pub returns-then-number-gt-GREATEST : goal.returns-then-number-gt-GREATEST
returns-then-number-gt-GREATEST c = sym (above c.args.layer.now c.keeps.ensures c.args.kind c.args.number (omega arith))

pub returns : goal.returns
returns c = c.has.ensures ∙ ap (has c.args.layer.now) c.id_at.ensures ∙ ap (has_number c.args.layer.now c.args.kind) (min_is c.args.number (omega arith))
