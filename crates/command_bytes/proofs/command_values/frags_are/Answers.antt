use Rattle.std.proofs.Common.{arith}
use Rattle.std.proofs.lemmas.List.Elements.{recursion_from_All}
use Rattle.mark_base.specs.declared.fragments.Frag.{Frag}
use Rattle.command_bytes.specs.CommandValues.{IsFrag}
use Rattle.command_bytes.proofs.command_values.frags_are.Goals as goal

pub returns : goal.returns
returns c = recursion_from_All (λ (frag : Frag). IsFrag frag) c.args.frags.now (λ k d lt. c.loop-frag.invariant k d (omega arith))
