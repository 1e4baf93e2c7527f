use Rattle.std.proofs.Common.{◌≡◌, ◌++◌, drop}
use Rattle.std.specs.Prelude.{option_map}
use Rattle.serde_json.specs.View.{items_view}
use Rattle.command_json.specs.Spellings.{argument_read}
use Rattle.command_json.specs.BodyFields.{each_read}
use Rattle.command_json.proofs.lists.each_argument.Given as goal

abbrev pub invariant-loop-item : goal.invariant-loop-item
invariant-loop-item l =
    each_read argument_read (items_view l.items) ≡ option_map (λ more. l.args.items ++ more) (each_read argument_read (items_view (drop l.item-index l.items)))
