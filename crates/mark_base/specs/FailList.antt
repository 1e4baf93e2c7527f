-- Which calls of a device in memory fail.
use Rattle.std.specs.Prelude.{◌≡◌, ℕ, ◌+◌, ◌<◌, Bool, List, true, false, nat_eq}
use Rattle.mark_base.specs.Streams.{CountsOne}
use Rattle.std.specs.List.{list_any}

-- the numbers of the calls that fail, from 1, how many calls were made, and how many failed
pub record FailState : Type 0 where
  pub fails : List ℕ
  pub calls : ℕ
  pub faults : ℕ

-- no failing call is left, and the count of faults is below its last value
abbrev pub IsFaultless : FailState → Type 0
IsFaultless s = ((call : ℕ) → s.calls < call → list_any (λ number. nat_eq number call) s.fails ≡ false) × (s.faults < 18446744073709551615)

-- the list has the number of a call
abbrev pub is_listed : FailState → ℕ → Bool
is_listed s call = list_any (λ number. nat_eq number call) s.fails

-- a call was counted once, below the last number of its type, and it failed exactly where the list has its number; a fault was counted once where it failed
pub record CountsCall (old : FailState) (failed : Bool) (new : FailState) : Type 0 where
  pub listed : old.calls < 18446744073709551615 → failed ≡ is_listed old (old.calls + 1)
  pub counted : old.calls < 18446744073709551615 → new.calls ≡ old.calls + 1
  pub fails : new.fails ≡ old.fails
  pub still : failed ≡ false → new.faults ≡ old.faults
  pub one : failed ≡ true → CountsOne old.faults new.faults
