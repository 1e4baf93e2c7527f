use Rattle.std.proofs.Common.{◌≡◌, ◌++◌, drop}
use Rattle.content_keys.specs.LayerContents.{ends_of}
use Rattle.content_keys.proofs.parts.push_ends.Given as goal

abbrev pub invariant-loop-frag : goal.invariant-loop-frag
invariant-loop-frag l = l.fn.out.items ++ ends_of l.frags ≡ l.out.items ++ ends_of (drop l.frag-index l.frags)
