-- What workers that have served still have.
use Rattle.std.proofs.Common.{◌≡◌, ℕ, zero, suc, ◌+◌, ◌<◌, List, length, Option, Some, None, refl, sym, ap, ◌∙◌, subst, arith}
use Rattle.std.specs.Prelude.{All, IsSomeAnd, slice_index_or}
use Rattle.atomic_table.specs.Seated.{TableId}
use Rattle.turn_hall.specs.Passes.{PassValue}
use Rattle.serve_command.specs.declared.doors.worker.Worker.{Worker}
use Rattle.serve_command.specs.Doors.Workers.{HasPass, Served, Serves}
use Rattle.serve_command.specs.Serving.Workers.{HavePasses, IsFirst, IsOther}

first_served : (id : TableId) (n : ℕ) (p q : PassValue) → IsFirst id n p → Served p q → IsFirst id n q
first_served id n p q is served = record {
  hall = served.same.hall ∙ is.hall;
  first = served.same.first ∙ is.first;
  splits = ap (λ (k : ℕ). k + 1) served.same.splits ∙ is.splits;
  stands = served.same.stands ∙ is.stands;
}

other_served : (id : TableId) (p q : PassValue) → IsOther id p → Served p q → IsOther id q
other_served id p q is served = record {
  hall = served.same.hall ∙ is.hall;
  second = served.same.first ∙ is.second;
  stands = served.same.stands ∙ is.stands;
}

passed_on : (P Q : PassValue → Type 0) → ((p q : PassValue) → P p → Served p q → Q q)
    → (old new : Option PassValue) → IsSomeAnd old P → ((p : PassValue) → old ≡ Some p → IsSomeAnd new (Served p)) → IsSomeAnd new Q
passed_on P Q keeps None new has serves = absurd has
passed_on P Q keeps (Some p) None has serves = absurd (serves p refl)
passed_on P Q keeps (Some p) (Some q) has serves = keeps p q has (serves p refl)

-- workers that have served have passes of the same kind
pub have_still : (sure endless : Type 0) (id : TableId) (old new : List Worker) → 0 < length old → length new ≡ length old → HavePasses id old
    → ((i : ℕ) (worker : Worker) → i < length old → Serves sure endless (slice_index_or old i worker) (slice_index_or new i worker)) → HavePasses id new
have_still sure endless id old new some same have serves = record {
  first = λ worker.
      subst (λ (n : ℕ). IsSomeAnd (slice_index_or new 0 worker).pass (IsFirst id n)) (sym same)
      (passed_on (IsFirst id (length old)) (IsFirst id (length old)) (first_served id (length old)) (slice_index_or old 0 worker).pass (slice_index_or new 0 worker).pass (have.first worker) (serves 0 worker some).served);
  others = λ k worker above below.
      let here : k < length old = subst (λ (n : ℕ). k < n) same below in
      passed_on (IsOther id) (IsOther id) (other_served id) (slice_index_or old k worker).pass (slice_index_or new k worker).pass (have.others k worker above here) (serves k worker here).served;
}

some_weaker : (P Q : PassValue → Type 0) → ((p : PassValue) → P p → Q p) → (o : Option PassValue) → IsSomeAnd o P → IsSomeAnd o Q
some_weaker P Q weaker None has = has
some_weaker P Q weaker (Some p) has = weaker p has

-- each of them has a pass of the hall
pub all_have : (id : TableId) (workers : List Worker) → HavePasses id workers → All (HasPass id) workers
all_have id workers have zero worker below = some_weaker (IsFirst id (length workers)) (λ p. p.hall ≡ id) (λ p is. is.hall) (slice_index_or workers 0 worker).pass (have.first worker)
all_have id workers have (suc k) worker below = some_weaker (IsOther id) (λ p. p.hall ≡ id) (λ p is. is.hall) (slice_index_or workers (suc k) worker).pass (have.others (suc k) worker (omega arith) below)
