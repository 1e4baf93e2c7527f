-- Reading values one after the other, as a loop does.
use Rattle.std.proofs.Common.{◌≡◌, ℕ, suc, ◌-◌, ◌+◌, ◌≤◌, ◌<◌, List, [], ◌∷◌, ◌++◌, Option, Some, None, refl, sym, ap, ◌∙◌, append_assoc, arith}
use Rattle.std.specs.Prelude.{option_map}
use Rattle.std.proofs.lemmas.List.{append-nil}
use Rattle.command_bytes.specs.CommandReading.{list_on}

-- the values read before, and those still read
abbrev pub with_front : {A : Type 0} → List A → Option (List A × List ℕ) → Option (List A × List ℕ)
with_front front read = option_map (λ x. (front ++ x.0, x.1)) read

regroup : {A : Type 0} (front : List A) (p : A) (read : Option (List A × List ℕ)) → with_front front (option_map (λ x. (p ∷ x.0, x.1)) read) ≡ with_front (front ++ p ∷ []) read
regroup {A = A} front p (Some x) = ap (λ (ps : List A). Some (ps, x.1)) (simp append_assoc)
regroup front p None = refl

pub goes_on : {A : Type 0} (each : List ℕ → Option (A × List ℕ)) (front : List A) (count i : ℕ) (bytes : List ℕ) (p : A) (after : List ℕ) (total : Option (List A × List ℕ)) → i < count → each bytes ≡ Some (p, after)
    → with_front front (list_on each (count - i) bytes) ≡ total → with_front (front ++ p ∷ []) (list_on each (count - (i + 1)) after) ≡ total
unfolding list_on
goes_on each front count i bytes p after total lt h so_far =
    let k : count - i ≡ suc (count - (i + 1)) = omega arith in
    let one : with_front front (list_on each (count - i) bytes) ≡ with_front (front ++ p ∷ []) (list_on each (count - (i + 1)) after) = rw (k, h) (regroup front p (list_on each (count - (i + 1)) after)) in
    sym one ∙ so_far

pub ends : {A : Type 0} (each : List ℕ → Option (A × List ℕ)) (front : List A) (count i : ℕ) (bytes : List ℕ) (total : Option (List A × List ℕ)) → i < count → each bytes ≡ None
    → with_front front (list_on each (count - i) bytes) ≡ total → total ≡ None
unfolding list_on
ends each front count i bytes total lt h so_far =
    let k : count - i ≡ suc (count - (i + 1)) = omega arith in
    let one : with_front front (list_on each (count - i) bytes) ≡ None = rw (k, h) refl in
    sym so_far ∙ one

pub is_done : {A : Type 0} (each : List ℕ → Option (A × List ℕ)) (front : List A) (count i : ℕ) (bytes : List ℕ) (total : Option (List A × List ℕ)) → count ≤ i → with_front front (list_on each (count - i) bytes) ≡ total → total ≡ Some (front, bytes)
unfolding list_on
is_done {A = A} each front count i bytes total le so_far =
    let k : count - i ≡ 0 = omega arith in
    let one : with_front front (list_on each (count - i) bytes) ≡ Some (front, bytes) = rw k (ap (λ (ps : List A). Some (ps, bytes)) (append-nil front)) in
    sym so_far ∙ one
