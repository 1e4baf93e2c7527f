-- A list with no failing call left fails none.
use Rattle.std.proofs.Common.{◌≡◌, ◌+◌, true, false, nat_eq, sym, ◌∙◌, arith}
use Rattle.std.specs.List.{list_any}
use Rattle.mark_base.specs.FailList.{FailState, IsFaultless}

true_false : true ≡ false → ⊥
true_false e = cc

pub faultless_no : (s : FailState) → IsFaultless s → list_any (λ number. nat_eq number (s.calls + 1)) s.fails ≡ true → ⊥
faultless_no s faultless is = true_false (sym is ∙ faultless.0 (s.calls + 1) (omega arith))
