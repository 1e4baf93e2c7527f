-- Pieces that are read one after another.
use Rattle.std.proofs.Common.{◌≡◌, ℕ, ◌<◌, List, [], ◌∷◌, ◌++◌, length, map, get_or, zero, suc, refl, sym, subst, arith, append_assoc, append-nil}
use Rattle.std.specs.List.{flat_map}
use Rattle.entry_bytes.specs.declared.entry.Entry.{Entry}
use Rattle.entry_bytes.specs.Entries.{IsEntry, entry_bytes}
use Rattle.checkpoint.specs.declared.so_far.SoFar.{SoFar}
use Rattle.checkpoint.specs.Reading.{Reads}
use Rattle.checkpoint.specs.Runs.{IsReadTo, goes_on}

-- behind those that leave this, pieces are read one after another, and leave that
abbrev pub IsRun : SoFar → List Entry → SoFar → Type 0
IsRun so [] now = so ≡ now
IsRun so (e ∷ es) now = (mid : SoFar) × IsEntry e × Reads so e mid × IsRun mid es now

-- entries go on with them
pub run_read : (es : List Entry) (entries : List (List ℕ)) (so now : SoFar) → IsRun so es now → IsReadTo entries so → IsReadTo (entries ++ map entry_bytes es) now
run_read [] entries so now run read = subst (λ (xs : List (List ℕ)). IsReadTo xs now) (sym (append-nil entries)) (subst (λ (z : SoFar). IsReadTo entries z) run read)
run_read (e ∷ es) entries so now run read =
    subst (λ (xs : List (List ℕ)). IsReadTo xs now) (append_assoc entries (entry_bytes e ∷ []) (map entry_bytes es))
    (run_read es (entries ++ entry_bytes e ∷ []) run.0 now run.3 (goes_on entries so run.0 e read run.1 run.2))

run_append : (es fs : List Entry) (so mid now : SoFar) → IsRun so es mid → IsRun mid fs now → IsRun so (es ++ fs) now
run_append [] fs so mid now run more = subst (λ (z : SoFar). IsRun z fs now) (sym run) more
run_append (e ∷ es) fs so mid now run more = (run.0, run.1, run.2, run_append es fs run.0 mid now run.3 more)

-- pieces are read, and what they leave is such
pub record Goes (so : SoFar) (es : List Entry) (P : SoFar → Type 0) : Type 0 where
  pub now : SoFar
  pub run : IsRun so es now
  pub is : P now

pub goes_none : (so : SoFar) (P : SoFar → Type 0) → P so → Goes so [] P
goes_none so P p = record { now = so; run = refl; is = p }

pub goes_one : (so now : SoFar) (e : Entry) (P : SoFar → Type 0) → IsEntry e → Reads so e now → P now → Goes so (e ∷ []) P
goes_one so now e P entered reads p = record { now = now; run = (now, entered, reads, refl); is = p }

pub goes_then : (es fs : List Entry) (so : SoFar) (P Q : SoFar → Type 0) → Goes so es P → ((now : SoFar) → P now → Goes now fs Q) → Goes so (es ++ fs) Q
goes_then es fs so P Q first more =
    let next : Goes first.now fs Q = more first.now first.is in
    record { now = next.now; run = run_append es fs so first.now next.now first.run next.run; is = next.is }

pub goes_on_to : (es : List Entry) (so : SoFar) (P Q : SoFar → Type 0) → Goes so es P → ((now : SoFar) → P now → Q now) → Goes so es Q
goes_on_to es so P Q first more = record { now = first.now; run = first.run; is = more first.now first.is }

-- the pieces of each element of a list in turn
pub walk : {X : Type 0} (f : X → List Entry) (P : ℕ → SoFar → Type 0) (xs : List X) → ((i : ℕ) (x : X) (so : SoFar) → i < length xs → get_or xs i x ≡ x → P i so → Goes so (f x) (P (suc i))) → (so : SoFar) → P zero so → Goes so (flat_map f xs) (P (length xs))
walk f P [] step so p = goes_none so (P zero) p
walk f P (x ∷ xs) step so p =
    goes_then (f x) (flat_map f xs) so (P (suc zero)) (P (length (x ∷ xs))) (step zero x so (omega arith) refl p)
    (λ now q. walk f (λ i. P (suc i)) xs (λ i y one within is before. step (suc i) y one (omega arith) is before) now q)
