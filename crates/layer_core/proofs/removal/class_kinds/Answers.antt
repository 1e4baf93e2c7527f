use Rattle.std.proofs.Common.{◌==◌, ◌∙◌, ap}
use Rattle.std.specs.List.{dedup}
use Rattle.std.proofs.lemmas.List.Filters.{dedup_is}
use Rattle.layer_core.proofs.removal.class_kinds.Goals as goal

pub returns : goal.returns
returns c = dedup_is ◌==◌ c.in_ok-kinds.kinds.items c.dedup.new.self.items c.dedup.ensures.filtered ∙ ap (dedup ◌==◌) c.in_ok-kinds.ensures
