-- The parts of an annotation as they are gathered (private calls only).
use Rattle.std.specs.Prelude.{map}
use Rattle.mark_base.specs.declared.ann_id.AnnId.{AnnId}
use Rattle.content_keys.specs.declared.parts.Parts.{Parts}
use Rattle.content_keys.specs.Nodes.{Node}
use Rattle.content_keys.specs.LayerContents.{link_of}

-- the node of gathered parts
abbrev pub made_of : Parts → Node AnnId
made_of parts = record { own = parts.own.items; named = parts.named.items; bag = map link_of parts.args.items }
