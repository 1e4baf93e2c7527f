-- When a call is known to have told its faults.
use Rattle.std.proofs.Common.{◌≡◌, ℕ, subst}
use Rattle.mark_base.specs.Streams.{Rose, TellsFault}

-- the count stood as before up to the call
pub told_after : {fault : Type 0} (old before now : ℕ) → before ≡ old → TellsFault fault before now → TellsFault fault old now
told_after {fault} old before now same told = subst (λ n. TellsFault fault n now) same told

-- there was no fault, and the count stands as before
pub told_none : {fault : Type 0} (before now : ℕ) → (fault → ⊥) → now ≡ before → TellsFault fault before now
told_none before now none same = record { rose = λ is. absurd (none is); still = λ _. same }

-- there was a fault, and the count rose
pub told_one : {fault : Type 0} (before now : ℕ) → fault → Rose before now → TellsFault fault before now
told_one before now is rose = record { rose = λ _. rose; still = λ none. absurd (none is) }

-- the fault goes by another name
pub told_as : {fault other : Type 0} (before now : ℕ) → (other → fault) → (fault → other) → TellsFault fault before now → TellsFault other before now
told_as before now back on told = record { rose = λ is. told.rose (back is); still = λ none. told.still (λ is. none (on is)) }
