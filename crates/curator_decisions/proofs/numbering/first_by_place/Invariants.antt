use Rattle.std.proofs.Common.{◌≡◌, ℕ, length, take, get_or, None}
use Rattle.content_keys.specs.Founds.{first_at}
use Rattle.curator_decisions.proofs.numbering.first_by_place.Given as goal

abbrev pub invariant-loop-one : goal.invariant-loop-one
invariant-loop-one l = record {
  long : length l.firsts.items ≡ l.count;
  firsts : (place : ℕ) → get_or l.firsts.items place None ≡ first_at (take l.one-index l.placed) place;
}
