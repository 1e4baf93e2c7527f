use Rattle.std.proofs.Common.{◌≡◌, map, take}
use Rattle.content_keys.specs.LayerContents.{link_of}
use Rattle.content_keys.proofs.parts.class_parts.Given as goal

abbrev pub invariant-loop-member : goal.invariant-loop-member
invariant-loop-member l = map link_of l.args.items ≡ map (λ member. (0, member)) (take l.member-index l.member-items)
