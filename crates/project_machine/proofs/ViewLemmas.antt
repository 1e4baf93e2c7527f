-- What a snapshot that is read keeps.
use Rattle.std.proofs.Common.{◌≡◌, ℕ, ◌-◌, ◌<◌, ◌≤◌, ◌==◌, ◌||◌, true, false, List, length, nat_lt, Option, Some, None, zero, suc, refl, subst, arith}
use Rattle.std.proofs.lemmas.Bool.{ltb-false, or_parts}
use Rattle.project_machine.specs.declared.book_refusal.BookRefusal.{BookRefusal}
use Rattle.project_machine.specs.declared.book_refusal.BookRefusal.TheVariants as no
use Rattle.project_machine.specs.ProjectState.{Snapshot, ProjectState, no_document, no_snapshot, snapshot}
use Rattle.project_machine.specs.Requests.{Refused, Taken, TakeSnapshot, View}
use Rattle.project_machine.specs.Machine.{refusal, step, taken, unless, view_of}
use Rattle.project_machine.specs.Legal.{IsKept, IsSnapshotKept, IsViewKept}
use Rattle.project_machine.proofs.RowLemmas.{or_first}
use Rattle.project_machine.proofs.KeptLemmas.{tests_free, when_none}

not_taken : (r : BookRefusal) (named : List ℕ) (view : View) → Refused r named ≡ Taken view → ⊥
not_taken r named view e = cc

same_view : (a b : View) → Taken a ≡ Taken b → a ≡ b
same_view a b e = cc

-- a snapshot that is read was not refused, and is that of its number
is_read : (s : ProjectState) (number : ℕ) (o : Option BookRefusal) (view : View) → (unless s (TakeSnapshot number) o (Taken (view_of s (snapshot s number))) None).answer ≡ Taken view → (o ≡ None) × (view_of s (snapshot s number) ≡ view)
is_read s number (Some r) view e = absurd (not_taken r _ view e)
is_read s number None view e = (refl, same_view (view_of s (snapshot s number)) view e)

eq_none : (n : ℕ) → (n == 0) ≡ false → 0 < n
eq_none zero e = absurd (zero_is e)
  where
    zero_is : true ≡ false → ⊥
    zero_is e = cc
eq_none (suc n) e = omega arith

view_kept : (s : ProjectState) (shot : Snapshot) → IsKept s → IsSnapshotKept s shot → IsViewKept (view_of s shot)
view_kept s shot k is = record {
  sound = k.founding.sound;
  is_text = (k.documents shot.doc no_document is.doc).text;
  are_holders = is.holders;
  layers = is.layers;
  ascending = is.ascending;
}

-- a snapshot that is read is there
pub read_snapshot : (s : ProjectState) (caller : List ℕ) (number : ℕ) (view : View) → (step s caller (TakeSnapshot number)).answer ≡ Taken view → (0 < number) × (number ≤ length s.snapshots) × (view_of s (snapshot s number) ≡ view)
read_snapshot s caller number view e =
    let told : (refusal s caller (TakeSnapshot number) ≡ None) × (view_of s (snapshot s number) ≡ view) = is_read s number (refusal s caller (TakeSnapshot number)) view e in
    let parts : ((number == 0) ≡ false) × (nat_lt (length s.snapshots) number ≡ false) =
    or_parts _ _ (when_none (number == 0 || nat_lt (length s.snapshots) number) no.NoSnapshot (or_first (taken s number) None (tests_free s caller (TakeSnapshot number) told.0))) in
    (eq_none number parts.0, ltb-false (length s.snapshots) number parts.1, told.1)

pub read_kept : (s : ProjectState) (caller : List ℕ) (number : ℕ) (view : View) → IsKept s → (step s caller (TakeSnapshot number)).answer ≡ Taken view → IsViewKept view
read_kept s caller number view k e =
    let there : (0 < number) × (number ≤ length s.snapshots) × (view_of s (snapshot s number) ≡ view) = read_snapshot s caller number view e in
    let some : 0 < number = there.0 in
    let most : number ≤ length s.snapshots = there.1 in
    subst IsViewKept there.2 (view_kept s (snapshot s number) k (k.snapshots (number - 1) no_snapshot (omega arith)))
