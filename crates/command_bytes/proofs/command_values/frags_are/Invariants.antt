use Rattle.std.proofs.Common.{ℕ, ◌<◌, get_or}
use Rattle.mark_base.specs.declared.fragments.Frag.{Frag}
use Rattle.command_bytes.specs.CommandValues.{IsFrag}
use Rattle.command_bytes.proofs.command_values.frags_are.Given as goal

abbrev pub invariant-loop-frag : goal.invariant-loop-frag
invariant-loop-frag l = (k : ℕ) (d : Frag) → k < l.frag-index → IsFrag (get_or l.frags k d)
