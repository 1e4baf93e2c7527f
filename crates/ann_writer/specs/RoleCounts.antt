-- How many arguments of each role stand before an argument (private calls only).
use Rattle.std.specs.Prelude.{◌≡◌, ℕ, ◌<◌, List, length, slice_index}
use Rattle.mark_base.specs.declared.arguments.Arg.{Arg}
use Rattle.layer_rules.specs.MarkRules.{filled}

-- the counts of the roles are those of these arguments
abbrev pub AreCounts : List ℕ → List Arg → Type 0
AreCounts counts before = (role : ℕ) → role < length counts → slice_index counts role ≡ filled role before
