-- Which ending is a fault of the link.
use Rattle.std.proofs.Common.{◌≡◌, ℕ, Result, Ok, Err, sym, subst}
use Rattle.mark_base.specs.Streams.{TellsFault}

-- a success is no error
pub not_err : {T E : Type 0} {result : Result T E} {value : T} {error : E} → result ≡ Ok value → result ≡ Err error → ⊥
not_err {T} {E} {result} {value} {error} ok err = cc

-- an error is one
pub same_err : {T E : Type 0} {result : Result T E} {one other : E} → result ≡ Err one → result ≡ Err other → one ≡ other
same_err {T} {E} {result} {one} {other} is was = cc

-- the count stood before and behind the call
pub told_around : {fault : Type 0} (old before after now : ℕ) → before ≡ old → now ≡ after → TellsFault fault before after → TellsFault fault old now
told_around {fault} old before after now first last told = subst (λ n. TellsFault fault old n) (sym last) (subst (λ n. TellsFault fault n after) first told)
