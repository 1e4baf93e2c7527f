-- A whole append, from its parts.
use Rattle.std.proofs.Common.{◌≡◌, inl, inr, ⊎_elim, ℕ, Bool, List, refl, sym, ◌∙◌, subst, Option, Some, None}
use Rattle.project_journal.specs.Disk.{NoMore}
use Rattle.project_journal.specs.JournalFile.{opened}
use Rattle.project_journal.specs.Stops.{LeavesOnly}
use Rattle.project_journal.specs.Keeper.{IsKeptOrDoubt, IsKeptOrOneMore}
use Rattle.project_journal.specs.Settled.{kept_in, kept_by, IsSettled}

pub kept_from : (holds : Option (List ℕ)) (gate : ℕ) (es : List (List ℕ)) → kept_by holds gate ≡ Some es → (f : List ℕ) × (holds ≡ Some f) × (kept_in gate f ≡ es)
kept_from None gate es is = absurd (cc)
kept_from (Some f) gate es is = (f, refl, cc)

pub one_more_from_doubt : (es : List (List ℕ)) (doubt : Option (List ℕ)) (entry : List ℕ) (found : Option (List (List ℕ))) → IsKeptOrDoubt es doubt found → IsKeptOrOneMore es doubt entry found
one_more_from_doubt es doubt entry found is = ⊎_elim (λ a. inl a) (λ b. inr (inr b)) is

pub one_more_from_entry : (es : List (List ℕ)) (doubt : Option (List ℕ)) (entry : List ℕ) (found : Option (List (List ℕ))) → IsKeptOrDoubt es (Some entry) found → IsKeptOrOneMore es doubt entry found
one_more_from_entry es doubt entry found is = ⊎_elim (λ a. inl a) (λ b. inr (inl b)) is

pub same_settled : (old new : List ℕ → Type 0) (held holds : Option (List ℕ)) (gate : ℕ) (mending : Bool) → holds ≡ held → NoMore old new
    → ((f : List ℕ) → held ≡ Some f → IsSettled old gate mending f) → (f : List ℕ) → holds ≡ Some f → IsSettled new gate mending f
same_settled old new held holds gate mending same no_more settled f is =
    let s = settled f (sym same ∙ is) in
    record { front = s.front; closed = λ b c image. s.closed b c (no_more c image); refused = s.refused; whole = λ b c image. s.whole b c (no_more c image) }

-- from the disk to the journal over it
pub lifts : {D J : Type 0} (moment : D → ℕ) (left_since : D → ℕ → List ℕ → Type 0) (disk : J → D) (old new : J) (P : List ℕ → Type 0) (Q : Option (List (List ℕ)) → Type 0)
    → LeavesOnly moment left_since (disk old) (disk new) P → ((c : List ℕ) → P c → Q (opened c))
    → LeavesOnly (λ j. moment (disk j)) (λ j t found. (c : List ℕ) × left_since (disk j) t c × (opened c ≡ found)) old new Q
lifts moment left_since disk old new P Q run weaker = record {
  later = run.later;
  each = λ found left. subst Q left.2 (weaker left.0 (run.each left.0 left.1));
  before = λ t found le left. ⊎_elim (λ l. inl (left.0, l, left.2)) (λ p. inr (subst Q left.2 (weaker left.0 p))) (run.before t left.0 le left.1);
}
