-- Events that begin chains, held by number (private calls only).
use Rattle.std.specs.Prelude.{◌≡◌, ℕ, Bool, List, is_some}
use Rattle.std.specs.Ordering.{nat_cmp}
use Rattle.std.specs.FinMap as finite
use Rattle.layer_model.specs.Annotations.{Annotations}
use Rattle.layer_rules.specs.LayerRules.{begins_longer_chain}

-- a number is among the entries of a map
abbrev pub is_held : {V : Type 0} → List (ℕ × V) → ℕ → Bool
is_held entries number = is_some (finite.get (finite.from_entries {R = nat_cmp} entries) number)

-- the numbers that are held are those of the events that begin a chain of more than so many events
abbrev pub HoldsChains : {V : Type 0} → Annotations → ℕ → List (ℕ × V) → Type 0
HoldsChains layer events entries = (number : ℕ) → is_held entries number ≡ begins_longer_chain layer events number
