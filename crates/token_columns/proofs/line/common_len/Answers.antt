use Rattle.std.proofs.Common.{ℕ, ◌≤◌, ◌==◌, drop, length, arith, length-drop}
use Rattle.std.specs.List.{common_prefix_len}
use Rattle.std.proofs.lemmas.List.Sums.{common_prefix_len-le}
use Rattle.token_columns.proofs.line.common_len.Goals as goal

pub returns-else-place-b : goal.returns-else-place-b
returns-else-place-b c =
    let few : common_prefix_len (λ (x y : ℕ). x == y) (drop c.loop-place.place c.args.a.now) (drop c.loop-place.place c.args.b.now) ≤ length (drop c.loop-place.place c.args.b.now) =
    (common_prefix_len-le (λ (x y : ℕ). x == y) (drop c.loop-place.place c.args.a.now) (drop c.loop-place.place c.args.b.now)).1 in
    omega (arith, few, length-drop c.loop-place.place c.args.b.now, c.loop-place.invariant.counted, c.if-place-b.false)
