use Rattle.std.proofs.Common.{◌∙◌, ap}
use Rattle.layer_core.specs.Backs.{with_left}
use Rattle.layer_core.specs.MadeLayers.{parted_from}
use Rattle.layer_core.proofs.BackStepLemmas.{gone_told, taken_leads}
use Rattle.layer_core.proofs.removal.take_away.Goals as goal

pub returns-clause-gone : goal.returns-clause-gone
returns-clause-gone c =
    gone_told c.args.layer.now c.take-mark.new.self c.part_from.new.layer c.args.id c.deref.result.now c.take-mark.ensures.rest c.keeps.ensures.classes
    (c.deref.ensures.value ∙ c.in_ok-kinds.ensures) c.part_from.ensures.layer

pub returns-clause-taken : goal.returns-clause-taken
returns-clause-taken c =
    taken_leads c.args.layer.now c.take-mark.new.self c.part_from.new.layer c.args.id c.take-mark.result c.from_vec-left.result (parted_from c.args.id c.take-mark.new.self.classes c.deref.result.now)
    c.take-mark.ensures.taken c.take-mark.ensures.rest c.part_from.ensures.layer
    (ap (λ ls. with_left c.args.id ls c.part_from.new.layer.classes) c.from_vec-left.ensures ∙ c.part_from.ensures.back ∙ ap (λ ls. with_left c.args.id ls c.take-mark.new.self.classes) c.in_ok-left.ensures.items)
