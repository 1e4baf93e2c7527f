-- Names that strictly ascend: some of them do too, and each stands at one place.
use Rattle.std.proofs.Common.{◌≡◌, ℕ, ◌<◌, ◌≤◌, Bool, true, false, List, [], ◌∷◌, length, map, get_or, Some, None, zero, suc, refl, arith, if◌then◌else◌}
use Rattle.std.specs.List.{All, AllByRecursion, filter, filter_map, zip, cons_option}
use Rattle.std.specs.List.Sorted.{IsStrictlySortedBy}
use Rattle.std.specs.declared.cmp.Ordering.{Ordering}
use Rattle.std.specs.declared.cmp.Ordering.TheVariants.{Less}
use Rattle.layer_model.specs.Annotations.{Annotations}
use Rattle.project_machine.specs.ProjectState.{Row, finished_row}

-- some elements of a list, in its order
pub data IsPart {K : Type 0} : List K → List K → Type 0 where
  nothing : IsPart [] []
  kept : (k : K) (some all : List K) → IsPart some all → IsPart (k ∷ some) (k ∷ all)
  left : (k : K) (some all : List K) → IsPart some all → IsPart some (k ∷ all)

part_all : {K : Type 0} (P : K → Type 0) (some all : List K) → IsPart some all → AllByRecursion P all → AllByRecursion P some
part_all P _ _ nothing h = tt
part_all P _ _ (kept k some all part) h = (h.0, part_all P some all part h.1)
part_all P _ _ (left k some all part) h = part_all P some all part h.1

-- where a list strictly ascends, some of its elements do
pub part_sorted : {K : Type 0} (c : K → K → Ordering) (some all : List K) → IsPart some all → IsStrictlySortedBy c all → IsStrictlySortedBy c some
unfolding IsStrictlySortedBy
part_sorted c _ _ nothing h = tt
part_sorted c _ _ (kept k some all part) h = (part_all (λ y. c k y ≡ Less) some all part h.0, part_sorted c some all part h.1)
part_sorted c _ _ (left k some all part) h = part_sorted c some all part h.1

filtered_by : {X K : Type 0} (f : X → K) (x : X) (b : Bool) (some : List X) (all : List K) → IsPart (map f some) all → IsPart (map f (if b then x ∷ some else some)) (f x ∷ all)
filtered_by f x true some all part = kept (f x) (map f some) all part
filtered_by f x false some all part = left (f x) (map f some) all part

pub filtered_part : {X K : Type 0} (f : X → K) (p : X → Bool) (xs : List X) → IsPart (map f (filter p xs)) (map f xs)
filtered_part f p [] = nothing
filtered_part f p (x ∷ xs) = filtered_by f x (p x) (filter p xs) (map f xs) (filtered_part f p xs)

no_part : {K : Type 0} (xs : List K) → IsPart [] xs
no_part [] = nothing
no_part (x ∷ xs) = left x [] xs (no_part xs)

finished_by : (name : List ℕ) (r : Row) (b : Bool) (some : List (List ℕ × Annotations)) (all : List (List ℕ)) → IsPart (map (λ held. held.0) some) all
    → IsPart (map (λ (held : List ℕ × Annotations). held.0) (cons_option (if b then Some (name, r.layer) else None) some)) (name ∷ all)
finished_by name r true some all part = kept name (map (λ (held : List ℕ × Annotations). held.0) some) all part
finished_by name r false some all part = left name (map (λ (held : List ℕ × Annotations). held.0) some) all part

-- the holders of finished rows are some of the annotators
pub finished_part : (names : List (List ℕ)) (rows : List Row) → IsPart (map (λ (held : List ℕ × Annotations). held.0) (filter_map finished_row (zip names rows))) names
finished_part [] rows = nothing
finished_part (name ∷ names) [] = no_part (name ∷ names)
finished_part (name ∷ names) (r ∷ rows) = finished_by name r r.finished (filter_map finished_row (zip names rows)) names (finished_part names rows)

pub part_length : {K : Type 0} (some all : List K) → IsPart some all → length some ≤ length all
part_length _ _ nothing = omega arith
part_length _ _ (kept k some all part) = let less : length some ≤ length all = part_length some all part in omega arith
part_length _ _ (left k some all part) = let less : length some ≤ length all = part_length some all part in omega arith

all_by : (P : List ℕ × Annotations → Type 0) (name : List ℕ) (r : Row) (b : Bool) (some : List (List ℕ × Annotations)) → r.finished ≡ b → (r.finished ≡ true → P (name, r.layer))
    → AllByRecursion P some → AllByRecursion P (cons_option (if b then Some (name, r.layer) else None) some)
all_by P name r true some is here rest = (here is, rest)
all_by P name r false some is here rest = rest

-- what holds of each finished row by its holder holds of all that are finished
pub finished_all : (P : List ℕ × Annotations → Type 0) (names : List (List ℕ)) (rows : List Row)
    → ((k : ℕ) (n : List ℕ) (r : Row) → k < length names → k < length rows → (get_or rows k r).finished ≡ true → P (get_or names k n, (get_or rows k r).layer))
    → AllByRecursion P (filter_map finished_row (zip names rows))
finished_all P [] rows each = tt
finished_all P (name ∷ names) [] each = tt
finished_all P (name ∷ names) (r ∷ rows) each =
    all_by P name r r.finished (filter_map finished_row (zip names rows)) refl (λ is. each 0 name r (omega arith) (omega arith) is)
    (finished_all P names rows (λ k n d below within is. each (suc k) n d (omega arith) (omega arith) is))

-- what holds of each element holds of the element of each index
pub all_at : {X : Type 0} (P : X → Type 0) (xs : List X) → AllByRecursion P xs → All P xs
all_at P [] all k d within = absurd (omega arith)
all_at P (x ∷ xs) all zero d within = all.0
all_at P (x ∷ xs) all (suc k) d within = all_at P xs all.1 k d (omega arith)
