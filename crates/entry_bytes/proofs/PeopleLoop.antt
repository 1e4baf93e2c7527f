-- Reading people one after the other, as a loop does.
use Rattle.std.proofs.Common.{◌≡◌, ℕ, suc, ◌-◌, ◌+◌, ◌≤◌, ◌<◌, List, [], ◌∷◌, ◌++◌, Option, Some, None, refl, sym, ap, ◌∙◌, append_assoc, arith}
use Rattle.std.specs.Prelude.{option_map}
use Rattle.std.proofs.lemmas.List.{append-nil}
use Rattle.entry_bytes.specs.declared.person.Person.{Person}
use Rattle.entry_bytes.specs.Reading.{person_at, people_on}

-- the people read before, and those still read
abbrev pub with_front : List Person → Option (List Person × List ℕ) → Option (List Person × List ℕ)
with_front front read = option_map (λ x. (front ++ x.0, x.1)) read

regroup : (front : List Person) (p : Person) (read : Option (List Person × List ℕ)) → with_front front (option_map (λ x. (p ∷ x.0, x.1)) read) ≡ with_front (front ++ p ∷ []) read
regroup front p (Some x) = ap (λ (ps : List Person). Some (ps, x.1)) (simp append_assoc)
regroup front p None = refl

pub goes_on : (front : List Person) (count i : ℕ) (bytes : List ℕ) (p : Person) (after : List ℕ) (total : Option (List Person × List ℕ)) → i < count → person_at bytes ≡ Some (p, after)
    → with_front front (people_on (count - i) bytes) ≡ total → with_front (front ++ p ∷ []) (people_on (count - (i + 1)) after) ≡ total
unfolding people_on
goes_on front count i bytes p after total lt h so_far =
    let k : count - i ≡ suc (count - (i + 1)) = omega arith in
    let one : with_front front (people_on (count - i) bytes) ≡ with_front (front ++ p ∷ []) (people_on (count - (i + 1)) after) = rw (k, h) (regroup front p (people_on (count - (i + 1)) after)) in
    sym one ∙ so_far

pub ends : (front : List Person) (count i : ℕ) (bytes : List ℕ) (total : Option (List Person × List ℕ)) → i < count → person_at bytes ≡ None
    → with_front front (people_on (count - i) bytes) ≡ total → total ≡ None
unfolding people_on
ends front count i bytes total lt h so_far =
    let k : count - i ≡ suc (count - (i + 1)) = omega arith in
    let one : with_front front (people_on (count - i) bytes) ≡ None = rw (k, h) refl in
    sym so_far ∙ one

pub is_done : (front : List Person) (count i : ℕ) (bytes : List ℕ) (total : Option (List Person × List ℕ)) → count ≤ i → with_front front (people_on (count - i) bytes) ≡ total → total ≡ Some (front, bytes)
unfolding people_on
is_done front count i bytes total le so_far =
    let k : count - i ≡ 0 = omega arith in
    let one : with_front front (people_on (count - i) bytes) ≡ Some (front, bytes) = rw k (ap (λ (ps : List Person). Some (ps, bytes)) (append-nil front)) in
    sym so_far ∙ one
