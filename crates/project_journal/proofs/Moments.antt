-- How a run of calls goes on.
use Rattle.std.proofs.Common.{inl, inr, ⊎_elim, ℕ, ◌≤◌, List, arith}
use Rattle.project_journal.specs.Disk.{Follows, NoMore}
use Rattle.project_journal.specs.Stops.{Elapses, LeavesOnly}

module _ {D : Type 0} (moment : D → ℕ) (left_since : D → ℕ → List ℕ → Type 0) (images : D → List ℕ → Type 0)
    (counts_now : (disk : D) (t : ℕ) (c : List ℕ) → t ≤ moment disk → images disk c → left_since disk t c)
    (only_now : (disk : D) (c : List ℕ) → left_since disk (moment disk) c → images disk c) where
  -- before the first call
  pub started : (old : D) (P : List ℕ → Type 0) → ((c : List ℕ) → images old c → P c) → LeavesOnly moment left_since old old P
  started old P here = record { later = omega arith; each = λ c left. here c (only_now old c left); before = λ t c le left. inl left }

  -- what a crash now leaves
  pub now : (old new : D) (P : List ℕ → Type 0) → LeavesOnly moment left_since old new P → (c : List ℕ) → images new c → P c
  now old new P so_far c is = so_far.each c (counts_now new (moment old) c so_far.later is)

  -- one call more, after which a crash leaves what has P
  pub goes_on : (old mid new : D) (P : List ℕ → Type 0) → LeavesOnly moment left_since old mid P → Elapses (moment mid) (moment new) (left_since mid) (left_since new) (images new)
      → ((c : List ℕ) → images new c → P c) → LeavesOnly moment left_since old new P
  goes_on old mid new P so_far time here = record {
    later = omega (arith, so_far.later, time.later);
    each = λ c left. ⊎_elim (so_far.each c) (here c) (time.nothing_else (moment old) c so_far.later left);
    before = λ t c le left. ⊎_elim (so_far.before t c le) (λ is. inr (here c is)) (time.nothing_else t c (omega (arith, le, so_far.later)) left);
  }

  -- the same by a step that keeps P
  pub goes_by : (old mid new : D) (P : List ℕ → Type 0) (step : List ℕ → List ℕ → Type 0) → LeavesOnly moment left_since old mid P → Elapses (moment mid) (moment new) (left_since mid) (left_since new) (images new)
      → Follows step (images mid) (images new) → ((d c : List ℕ) → P d → step d c → P c) → LeavesOnly moment left_since old new P
  goes_by old mid new P step so_far time follows keeps =
      goes_on old mid new P so_far time (λ c is. let from = follows c is in keeps from.0 c (now old mid P so_far from.0 from.1) from.2)

  pub goes_same : (old mid new : D) (P : List ℕ → Type 0) → LeavesOnly moment left_since old mid P → Elapses (moment mid) (moment new) (left_since mid) (left_since new) (images new)
      → NoMore (images mid) (images new) → LeavesOnly moment left_since old new P
  goes_same old mid new P so_far time no_more = goes_on old mid new P so_far time (λ c is. now old mid P so_far c (no_more c is))

  -- two runs, one after the other
  pub joins : (old mid new : D) (P Q : List ℕ → Type 0) → LeavesOnly moment left_since old mid P → LeavesOnly moment left_since mid new Q → ((c : List ℕ) → Q c → P c) → LeavesOnly moment left_since old new P
  joins old mid new P Q first second weaker = record {
    later = omega (arith, first.later, second.later);
    each = λ c left. ⊎_elim (first.each c) (weaker c) (second.before (moment old) c first.later left);
    before = λ t c le left. ⊎_elim (first.before t c le) (λ q. inr (weaker c q)) (second.before t c (omega (arith, le, first.later)) left);
  }

  pub weakens : (old new : D) (P Q : List ℕ → Type 0) → LeavesOnly moment left_since old new P → ((c : List ℕ) → P c → Q c) → LeavesOnly moment left_since old new Q
  weakens old new P Q run weaker = record {
    later = run.later;
    each = λ c left. weaker c (run.each c left);
    before = λ t c le left. ⊎_elim (λ l. inl l) (λ p. inr (weaker c p)) (run.before t c le left);
  }
