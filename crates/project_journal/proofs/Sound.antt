-- A file that opens is refused for its disk or for want of memory alone.
use Rattle.std.proofs.Common.{◌≡◌, ◌⊎◌, inl, inr, ⊎_elim, ℕ, List, Bool, true, false, Option, Some, None, ◌∙◌, ap}
use Rattle.std.specs.Prelude.{if◌then◌else◌, ◌&&◌, is_none}
use Rattle.project_journal.specs.JournalFile.{opened, opened_if, is_journal, version, is_known, damage, entries}
use Rattle.project_journal.specs.Opening.{Refuses}
use Rattle.project_journal.specs.declared.journal_fault.JournalFault.{JournalFault}
use Rattle.project_journal.specs.declared.journal_fault.JournalFault.TheVariants.{NotAJournal, NewerVersion, Disk, Damaged, AlreadyThere, Memory}

-- what a file that opens has
record Good (is_marked is_read : Bool) (damaged : Option ℕ) : Type 0 where
  pub journal : is_marked ≡ true
  pub known : is_read ≡ true
  pub whole : damaged ≡ None

by : (j : Bool) (v : ℕ) (d : Option ℕ) (found es : List (List ℕ)) → opened_if j v d found ≡ Some es → Good j (is_known v) d
by j v d found es is = cases j (is_known v) d is
  where
    cases : (j k : Bool) (d : Option ℕ) → (if◌then◌else◌ (j && k && is_none d) (Some found) None) ≡ Some es → Good j k d
    cases true true None is = record { journal = λ i. true; known = λ i. true; whole = λ i. None }
    cases true true (Some k) is = absurd (cc)
    cases true false d is = absurd (cc)
    cases false k d is = absurd (cc)

false_is : (b : Bool) → b ≡ true → b ≡ false → ⊥
false_is b holds fails = cc

some_is : (d : Option ℕ) (k : ℕ) → d ≡ None → d ≡ Some k → ⊥
some_is d k none some = cc

pub refused_for_memory : (file : List ℕ) (es : List (List ℕ)) (e : JournalFault) → opened file ≡ Some es → Refuses file e → e ≡ Memory
unfolding opened
refused_for_memory file es NotAJournal is no_journal = absurd (false_is (is_journal file) (by (is_journal file) (version file) (damage file) (entries file) es is).journal no_journal)
refused_for_memory file es (NewerVersion n) is newer = absurd (false_is (is_known (version file)) (by (is_journal file) (version file) (damage file) (entries file) es is).known (ap is_known newer.1 ∙ newer.2))
refused_for_memory file es (Damaged k) is damaged = absurd (some_is (damage file) k (by (is_journal file) (version file) (damage file) (entries file) es is).whole damaged.2)
refused_for_memory file es Memory is any = λ i. Memory
refused_for_memory file es Disk is none = absurd none
refused_for_memory file es (AlreadyThere n) is none = absurd none

pub refused_so : (file : List ℕ) (es : List (List ℕ)) (e : JournalFault) → opened file ≡ Some es → (e ≡ Disk) ⊎ Refuses file e → (e ≡ Disk) ⊎ (e ≡ Memory)
refused_so file es e is from = ⊎_elim (λ d. inl d) (λ r. inr (refused_for_memory file es e is r)) from
