use Rattle.std.proofs.Common.{◌≡◌, ◌++◌, drop}
use Rattle.std.specs.Prelude.{option_map}
use Rattle.serde_json.specs.View.{items_view}
use Rattle.mark_base.specs.ReadIds.{id_read}
use Rattle.command_json.specs.BodyFields.{each_read}
use Rattle.command_json.proofs.lists.each_id.Given as goal

abbrev pub invariant-loop-item : goal.invariant-loop-item
invariant-loop-item l =
    each_read id_read (items_view l.items) ≡ option_map (λ more. l.ids.items ++ more) (each_read id_read (items_view (drop l.item-index l.items)))
