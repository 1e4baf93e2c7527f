use Rattle.std.proofs.Common.{◌≡◌, ◌+◌, ◌-◌, ◌≤◌, ◌==◌, drop, length}
use Rattle.std.specs.List.{common_prefix_len}
use Rattle.token_columns.proofs.line.common_len.Given as goal

abbrev pub invariant-loop-place : goal.invariant-loop-place
invariant-loop-place l = record {
  within : l.place ≤ length l.a;
  short : l.place ≤ length l.b;
  counted : common_prefix_len (λ x y. x == y) l.a l.b ≡ l.place + common_prefix_len (λ x y. x == y) (drop l.place l.a) (drop l.place l.b);
}

abbrev pub decreases-loop-place : goal.decreases-loop-place
decreases-loop-place l = length l.initial.a - l.place
