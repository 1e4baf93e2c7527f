-- What is read of the snapshots of a project, and what the tests of a decision come to.
use Rattle.std.proofs.Common.{◌≡◌, ◌≢◌, ◌⊎◌, inl, inr, Global, ℕ, ◌+◌, ◌-◌, ◌<◌, ◌≤◌, ◌==◌, ◌||◌, Bool, true, false, not, cond, List, [], ◌∷◌, ◌++◌, length, map, take, take_all, take_all, get_or, slice_get, nat_lt, Option, Some, None, option_map, zero, suc, refl, sym, ◌∙◌, ap, subst, arith, bytes_eq, if◌then◌else◌}
use Rattle.std.specs.List.{All, list_any, position_or_len}
use Rattle.std.specs.Option.{option_or}
use Rattle.std.proofs.lemmas.Bool.{cases_lt, le-ltb, lt-ltb}
use Rattle.std.proofs.lemmas.Bool.Decides.{nat_tests}
use Rattle.std.proofs.lemmas.Option.{get_or_from_slice_get}
use Rattle.std.proofs.lemmas.List.{get_or_push, length_push, map_push, take_more}
use Rattle.std.proofs.lemmas.List.Elements.{All-get_or}
use Rattle.std.proofs.lemmas.List.Sums.{position_or_len_is}
use Rattle.conf_model.specs.Configurations.{Configuration}
use Rattle.layer_model.specs.Annotations.{Annotations, no_marks}
use Rattle.layer_model.specs.Snapshots.{AreHolders, row_of}
use Rattle.std.specs.declared.sync.Arc.{Arc}
use Rattle.std.proofs.lemmas.List.{length-map}
use Rattle.project_steps.proofs.StepsProofs.OutcomeLemmas.{number_within}
use Rattle.mark_base.specs.declared.ann_id.AnnId.{AnnId}
use Rattle.unanimous_merge.specs.Readings.{readings}
use Rattle.unanimous_merge.specs.declared.item.ItemId.{ItemId}
use Rattle.curator_decisions.specs.declared.verdict.Verdict.{Verdict}
use Rattle.curator_decisions.specs.declared.decision_fault.DecisionFault.{DecisionFault}
use Rattle.curator_decisions.specs.declared.decision_fault.DecisionFault.TheVariants as fault
use Rattle.curator_decisions.specs.DecisionFaults.{decide_fault, undecide_fault}
use Rattle.curator_decisions.specs.Deciding.{IsFirstFault}
use Rattle.project_machine.specs.declared.book_refusal.BookRefusal.{BookRefusal}
use Rattle.project_machine.specs.declared.book_refusal.BookRefusal.TheVariants as no
use Rattle.project_machine.specs.ProjectState.{ProjectState, Snapshot, finished_rows, holder_of, is_holder, is_untaken, item_in, is_there, no_snapshot, number_of, snapshot, snapshot_of, text_of}
use Rattle.project_machine.specs.Requests.{Decide, Undecide, SnapshotTaken, TakeSnapshot}
use Rattle.project_machine.specs.Machine.{decidable, first_of, holds, taken, tests, undecidable, when}
use Rattle.project_machine.specs.History.{effect, new_snapshot}
use Rattle.layer_rules.specs.WellFormed.{IsWellFormed}
use Rattle.layer_model.specs.Coherent.{IsCoherent}
use Rattle.layer_model.specs.Layers.{IsLayer}
use Rattle.project_machine.specs.Legal.{IsKept, IsSnapshotKept, LayerObeys}
use Rattle.project_machine.proofs.SnapshotLemmas.{snap_kept}
use Rattle.project_state.proofs.PeopleLemmas.{any_first}

some_snapshots : (a b : Snapshot) → Some a ≡ Some b → a ≡ b
some_snapshots a b e = cc

none_some : {X : Type 0} (x : X) → None ≡ Some x → ⊥
none_some x e = cc

true_false : true ≡ false → ⊥
true_false e = cc

-- ---- a snapshot by number

taken_at : (shots : List Snapshot) (k : ℕ) → (k < length shots → slice_get shots k ≡ Some (get_or shots k no_snapshot)) × (length shots ≤ k → slice_get shots k ≡ None)
taken_at [] k = (λ h. absurd (omega arith), λ h. refl)
taken_at (shot ∷ shots) zero = (λ h. refl, λ h. absurd (omega arith))
taken_at (shot ∷ shots) (suc k) = (λ h. (taken_at shots k).0 (omega arith), λ h. (taken_at shots k).1 (omega arith))

not_zero : (k : ℕ) → (suc k == 0) ≡ false
not_zero k = let some : suc k ≢ 0 = λ e. omega (arith, e) in grind (arith, nat_tests, some)

pub numbered_at : (s : ProjectState) (number : ℕ) → number ≢ 0 → slice_get s.snapshots (number - 1) ≡ snapshot_of s number
numbered_at s zero some = absurd (some refl)
numbered_at s (suc k) some = by (cases_lt k (length s.snapshots))
  where
    by : (k < length s.snapshots) ⊎ (length s.snapshots ≤ k) → slice_get s.snapshots (suc k - 1) ≡ snapshot_of s (suc k)
    by (inl low) = let back : suc k - 1 ≡ k = omega arith in
        ap (slice_get s.snapshots) back ∙ ((taken_at s.snapshots k).0 low ∙ (ap (λ (n : ℕ). Some (get_or s.snapshots n no_snapshot)) (sym back)
        ∙ ap (λ (b : Bool). if b then None else Some (snapshot s (suc k))) (sym (ap (λ (a : Bool). a || nat_lt (length s.snapshots) (suc k)) (not_zero k) ∙ le-ltb (length s.snapshots) (suc k) (omega arith)))))
    by (inr high) = let back : suc k - 1 ≡ k = omega arith in
        ap (slice_get s.snapshots) back ∙ ((taken_at s.snapshots k).1 high
        ∙ ap (λ (b : Bool). if b then None else Some (snapshot s (suc k))) (sym (ap (λ (a : Bool). a || nat_lt (length s.snapshots) (suc k)) (not_zero k) ∙ lt-ltb (length s.snapshots) (suc k) (omega arith))))

pub untaken_at_zero : (s : ProjectState) (number : ℕ) → number ≡ 0 → None ≡ snapshot_of s number
untaken_at_zero s number e = ap (λ (n : ℕ). snapshot_of s n) (sym e)

-- a number of no snapshot, and a number of one
told_by : (s : ProjectState) (number : ℕ) (untaken : Bool) (o : Option Snapshot) → is_untaken s number ≡ untaken → (if untaken then None else Some (snapshot s number)) ≡ o
    → (o ≡ None → taken s number ≡ Some no.NoSnapshot) × ((shot : Snapshot) → o ≡ Some shot → (taken s number ≡ None) × (snapshot s number ≡ shot) × (nat_lt (length s.snapshots) number ≡ false) × ((number == 0) ≡ false))
told_by s number true o is told = (λ e. ap (λ (b : Bool). when b no.NoSnapshot) is, λ shot e. absurd (none_some shot (told ∙ e)))
told_by s number false o is told =
    (λ e. absurd (none_some (snapshot s number) (sym e ∙ sym told)), λ shot e. (ap (λ (b : Bool). when b no.NoSnapshot) is, some_snapshots (snapshot s number) shot (told ∙ e), (parts (number == 0) (nat_lt (length s.snapshots) number) is).1, (parts (number == 0) (nat_lt (length s.snapshots) number) is).0))
  where
    parts : (a b : Bool) → (a || b) ≡ false → (a ≡ false) × (b ≡ false)
    parts true b e = absurd (true_false e)
    parts false b e = (refl, e)

pub untaken : (s : ProjectState) (number : ℕ) → None ≡ snapshot_of s number → taken s number ≡ Some no.NoSnapshot
untaken s number e = (told_by s number (is_untaken s number) (snapshot_of s number) refl refl).0 (sym e)

pub is_taken : (s : ProjectState) (number : ℕ) (shot : Snapshot) → Some shot ≡ snapshot_of s number → taken s number ≡ None
is_taken s number shot e = ((told_by s number (is_untaken s number) (snapshot_of s number) refl refl).1 shot (sym e)).0

pub is_shot : (s : ProjectState) (number : ℕ) (shot : Snapshot) → Some shot ≡ snapshot_of s number → snapshot s number ≡ shot
is_shot s number shot e = ((told_by s number (is_untaken s number) (snapshot_of s number) refl refl).1 shot (sym e)).1

pub shot_kept : (s : ProjectState) (number : ℕ) (shot : Snapshot) → IsKept s → Some shot ≡ snapshot_of s number → IsSnapshotKept s shot
shot_kept s number shot kept e =
    let told = (told_by s number (is_untaken s number) (snapshot_of s number) refl refl).1 shot (sym e) in
    let within : number - 1 < length s.snapshots = low number (length s.snapshots) told.2 told.3 in
    subst (IsSnapshotKept s) told.1 (All-get_or (IsSnapshotKept s) s.snapshots (number - 1) no_snapshot within kept.snapshots)
  where
    low : (n most : ℕ) → nat_lt most n ≡ false → (n == 0) ≡ false → n - 1 < most
    low zero most a b = absurd (true_false b)
    low (suc n) most a b = grind (arith, a)

-- ---- a holder

pub holds_one : (shot : Snapshot) (who : List ℕ) → holder_of shot who < length shot.holders → holds shot who ≡ None
holds_one shot who low = ap (λ (b : Bool). when (not b) (no.Decision fault.NoItem)) (sym (any_first (λ held. bytes_eq held.0 who) shot.holders) ∙ lt-ltb (holder_of shot who) (length shot.holders) low)

pub holds_none : (shot : Snapshot) (who : List ℕ) → length shot.holders ≤ holder_of shot who → holds shot who ≡ Some (no.Decision fault.NoItem)
holds_none shot who high = ap (λ (b : Bool). when (not b) (no.Decision fault.NoItem)) (sym (any_first (λ held. bytes_eq held.0 who) shot.holders) ∙ le-ltb (holder_of shot who) (length shot.holders) high)

-- ---- what the tests of a decision come to

or_none : (c : Option BookRefusal) → option_or c None ≡ c
or_none None = refl
or_none (Some r) = refl

second_of : (a b : Option BookRefusal) (more : List (Option BookRefusal)) (r : BookRefusal) → a ≡ None → b ≡ Some r → first_of (a ∷ b ∷ more) ≡ Some r
second_of a b more r free is = ap (λ (o : Option BookRefusal). option_or o (option_or b (first_of more))) free ∙ ap (λ (o : Option BookRefusal). option_or o (first_of more)) is

third_of : (a b c : Option BookRefusal) → a ≡ None → b ≡ None → first_of (a ∷ b ∷ c ∷ []) ≡ c
third_of a b c free also = ap (λ (o : Option BookRefusal). option_or o (option_or b (option_or c None))) free ∙ (ap (λ (o : Option BookRefusal). option_or o (option_or c None)) also ∙ or_none c)

first_fault : (first : Option DecisionFault) (told : DecisionFault) → told ≢ fault.Memory → IsFirstFault first told → first ≡ Some told
first_fault first fault.NoItem apart is = is
first_fault first fault.AlreadyIn apart is = is
first_fault first fault.NotIn apart is = is
first_fault first fault.NotDecided apart is = is
first_fault first (fault.NeedsItem item) apart is = is
first_fault first (fault.Broken rule) apart is = is
first_fault first fault.Memory apart is = absurd (apart refl)

-- a snapshot that was not taken
pub decide_untaken : (s : ProjectState) (caller : List ℕ) (number : ℕ) (holder : List ℕ) (id : AnnId) (verdict : Verdict) → None ≡ snapshot_of s number → first_of (tests s caller (Decide number holder id verdict)) ≡ Some no.NoSnapshot
decide_untaken s caller number holder id verdict e = ap (λ (o : Option BookRefusal). option_or o (first_of (holds (snapshot s number) holder ∷ decidable s (snapshot s number) (item_in (snapshot s number) holder id) verdict ∷ []))) (untaken s number e)

pub undecide_untaken : (s : ProjectState) (caller : List ℕ) (number : ℕ) (holder : List ℕ) (id : AnnId) → None ≡ snapshot_of s number → first_of (tests s caller (Undecide number holder id)) ≡ Some no.NoSnapshot
undecide_untaken s caller number holder id e = ap (λ (o : Option BookRefusal). option_or o (first_of (holds (snapshot s number) holder ∷ undecidable s (snapshot s number) (item_in (snapshot s number) holder id) ∷ []))) (untaken s number e)

-- somebody who holds no layer of it
pub decide_unheld : (s : ProjectState) (caller : List ℕ) (number : ℕ) (holder : List ℕ) (id : AnnId) (verdict : Verdict) (shot : Snapshot) → Some shot ≡ snapshot_of s number → length shot.holders ≤ holder_of shot holder
    → first_of (tests s caller (Decide number holder id verdict)) ≡ Some (no.Decision fault.NoItem)
decide_unheld s caller number holder id verdict shot e high =
    second_of (taken s number) (holds (snapshot s number) holder) (decidable s (snapshot s number) (item_in (snapshot s number) holder id) verdict ∷ []) (no.Decision fault.NoItem) (is_taken s number shot e)
    (ap (λ (one : Snapshot). holds one holder) (is_shot s number shot e) ∙ holds_none shot holder high)

pub undecide_unheld : (s : ProjectState) (caller : List ℕ) (number : ℕ) (holder : List ℕ) (id : AnnId) (shot : Snapshot) → Some shot ≡ snapshot_of s number → length shot.holders ≤ holder_of shot holder
    → first_of (tests s caller (Undecide number holder id)) ≡ Some (no.Decision fault.NoItem)
undecide_unheld s caller number holder id shot e high =
    second_of (taken s number) (holds (snapshot s number) holder) (undecidable s (snapshot s number) (item_in (snapshot s number) holder id) ∷ []) (no.Decision fault.NoItem) (is_taken s number shot e)
    (ap (λ (one : Snapshot). holds one holder) (is_shot s number shot e) ∙ holds_none shot holder high)

-- what is left is the fault of the decision
decide_tests : (s : ProjectState) (caller : List ℕ) (number : ℕ) (holder : List ℕ) (id : AnnId) (verdict : Verdict) (shot : Snapshot) → Some shot ≡ snapshot_of s number → holder_of shot holder < length shot.holders
    → first_of (tests s caller (Decide number holder id verdict)) ≡ decidable s shot (item_in shot holder id) verdict
decide_tests s caller number holder id verdict shot e low =
    third_of (taken s number) (holds (snapshot s number) holder) (decidable s (snapshot s number) (item_in (snapshot s number) holder id) verdict) (is_taken s number shot e)
    (ap (λ (one : Snapshot). holds one holder) (is_shot s number shot e) ∙ holds_one shot holder low)
    ∙ ap (λ (one : Snapshot). decidable s one (item_in one holder id) verdict) (is_shot s number shot e)

undecide_tests : (s : ProjectState) (caller : List ℕ) (number : ℕ) (holder : List ℕ) (id : AnnId) (shot : Snapshot) → Some shot ≡ snapshot_of s number → holder_of shot holder < length shot.holders
    → first_of (tests s caller (Undecide number holder id)) ≡ undecidable s shot (item_in shot holder id)
undecide_tests s caller number holder id shot e low =
    third_of (taken s number) (holds (snapshot s number) holder) (undecidable s (snapshot s number) (item_in (snapshot s number) holder id)) (is_taken s number shot e)
    (ap (λ (one : Snapshot). holds one holder) (is_shot s number shot e) ∙ holds_one shot holder low)
    ∙ ap (λ (one : Snapshot). undecidable s one (item_in one holder id)) (is_shot s number shot e)

pub decide_free : (s : ProjectState) (caller : List ℕ) (number : ℕ) (holder : List ℕ) (id : AnnId) (verdict : Verdict) (shot : Snapshot) (item : ItemId) → Some shot ≡ snapshot_of s number → holder_of shot holder < length shot.holders
    → item ≡ item_in shot holder id → decide_fault s.conf (length (text_of s shot)) (readings shot.holders) shot.verdicts item verdict ≡ None → first_of (tests s caller (Decide number holder id verdict)) ≡ None
decide_free s caller number holder id verdict shot item e low same free =
    decide_tests s caller number holder id verdict shot e low ∙ (ap (λ (one : ItemId). decidable s shot one verdict) (sym same) ∙ ap (option_map no.Decision) free)

pub undecide_free : (s : ProjectState) (caller : List ℕ) (number : ℕ) (holder : List ℕ) (id : AnnId) (shot : Snapshot) (item : ItemId) → Some shot ≡ snapshot_of s number → holder_of shot holder < length shot.holders
    → item ≡ item_in shot holder id → undecide_fault s.conf (length (text_of s shot)) (readings shot.holders) shot.verdicts item ≡ None → first_of (tests s caller (Undecide number holder id)) ≡ None
undecide_free s caller number holder id shot item e low same free =
    undecide_tests s caller number holder id shot e low ∙ (ap (λ (one : ItemId). undecidable s shot one) (sym same) ∙ ap (option_map no.Decision) free)

pub decide_refused : (s : ProjectState) (caller : List ℕ) (number : ℕ) (holder : List ℕ) (id : AnnId) (verdict : Verdict) (shot : Snapshot) (item : ItemId) (told : DecisionFault) → Some shot ≡ snapshot_of s number
    → holder_of shot holder < length shot.holders → item ≡ item_in shot holder id → told ≢ fault.Memory → IsFirstFault (decide_fault s.conf (length (text_of s shot)) (readings shot.holders) shot.verdicts item verdict) told
    → first_of (tests s caller (Decide number holder id verdict)) ≡ Some (no.Decision told)
decide_refused s caller number holder id verdict shot item told e low same apart is =
    decide_tests s caller number holder id verdict shot e low ∙ (ap (λ (one : ItemId). decidable s shot one verdict) (sym same) ∙ ap (option_map no.Decision) (first_fault _ told apart is))

pub undecide_refused : (s : ProjectState) (caller : List ℕ) (number : ℕ) (holder : List ℕ) (id : AnnId) (shot : Snapshot) (item : ItemId) (told : DecisionFault) → Some shot ≡ snapshot_of s number
    → holder_of shot holder < length shot.holders → item ≡ item_in shot holder id → told ≢ fault.Memory → IsFirstFault (undecide_fault s.conf (length (text_of s shot)) (readings shot.holders) shot.verdicts item) told
    → first_of (tests s caller (Undecide number holder id)) ≡ Some (no.Decision told)
undecide_refused s caller number holder id shot item told e low same apart is =
    undecide_tests s caller number holder id shot e low ∙ (ap (λ (one : ItemId). undecidable s shot one) (sym same) ∙ ap (option_map no.Decision) (first_fault _ told apart is))

-- ---- rows of a snapshot

-- the name of the holder of a place
name_at : (rows : List (List ℕ × Annotations)) (name : List ℕ) (place : ℕ) → Some name ≡ option_map (λ (row : List ℕ × Annotations). row.0) (slice_get rows place) → (get_or rows place ([], no_marks)).0 ≡ name
name_at [] name place e = absurd (none_is e)
  where
    none_is : Some name ≡ None → ⊥
    none_is same = cc
name_at (row ∷ rows) name zero e = some_is e
  where
    some_is : Some name ≡ Some row.0 → row.0 ≡ name
    some_is same = cc
name_at (row ∷ rows) name (suc place) e = name_at rows name place e

-- the first place whose holder has the name
pub holder_here : (shot : Snapshot) (who name : List ℕ) (place : ℕ) → place < length shot.holders → Some name ≡ option_map (λ (row : List ℕ × Annotations). row.0) (slice_get shot.holders place) → bytes_eq name who ≡ true
    → ((k : ℕ) → k < place → bytes_eq (get_or shot.holders k ([], no_marks)).0 who ≡ false) → place ≡ holder_of shot who
holder_here shot who name place low e same before =
    sym (position_or_len_is (λ (held : List ℕ × Annotations). bytes_eq held.0 who) shot.holders place ([], no_marks) (omega arith) before
    (λ h. ap (λ (one : List ℕ). bytes_eq one who) (name_at shot.holders name place e) ∙ same))

-- one more place whose holder has another name
pub holder_apart : (shot : Snapshot) (who name : List ℕ) (place : ℕ) → Some name ≡ option_map (λ (row : List ℕ × Annotations). row.0) (slice_get shot.holders place) → bytes_eq name who ≡ false
    → ((k : ℕ) → k < place → bytes_eq (get_or shot.holders k ([], no_marks)).0 who ≡ false) → (k : ℕ) → k < place + 1 → bytes_eq (get_or shot.holders k ([], no_marks)).0 who ≡ false
holder_apart shot who name place e other before k low = elim (cases_lt k place) [
  | inl under ↦ before k under
  | inr over ↦
      let here : place ≡ k = omega arith in
      subst (λ (n : ℕ). bytes_eq (get_or shot.holders n ([], no_marks)).0 who ≡ false) here (ap (λ (one : List ℕ). bytes_eq one who) (name_at shot.holders name place e) ∙ other)
]

-- nobody has the name
pub holder_nowhere : (shot : Snapshot) (who : List ℕ) (place : ℕ) → place ≡ length shot.holders → ((k : ℕ) → k < place → bytes_eq (get_or shot.holders k ([], no_marks)).0 who ≡ false) → place ≡ holder_of shot who
holder_nowhere shot who place all before =
    sym (position_or_len_is (λ (held : List ℕ × Annotations). bytes_eq held.0 who) shot.holders place ([], no_marks) (omega arith) before (λ h. absurd (omega arith)))

-- a front of a list, mapped, with one more
pub mapped_front : {X Y : Type 0} (f : X → Y) (all : List Y) (done more : List X) (x : X) (place : ℕ) (d : Y) → place < length all → map f done ≡ take place all → more ≡ done ++ x ∷ [] → f x ≡ get_or all place d → map f more ≡ take (place + 1) all
mapped_front {Y = Y} f all done more x place d low front is one =
    ap (map f) is ∙ (map_push f done x ∙ (ap (λ (ys : List Y). ys ++ f x ∷ []) front ∙ (ap (λ (y : Y). take place all ++ y ∷ []) one ∙ sym (take_more all place d low))))

-- rows that are all of a snapshot are holders
pub all_hold : (all rows : List (List ℕ × Annotations)) (place : ℕ) → AreHolders all → rows ≡ take place all → place ≡ length all → AreHolders rows
all_hold all rows place hold front whole = subst AreHolders (sym (front ∙ take_all place all (omega arith))) hold

-- the finished layers of a document are holders
pub finished_hold : (s : ProjectState) (doc : ℕ) → IsKept s → doc < length s.documents → 2 ≤ length (finished_rows s doc) → AreHolders (finished_rows s doc)
finished_hold s doc kept within two =
    let shot : Snapshot = new_snapshot s doc in
    let size : length (s.snapshots ++ shot ∷ []) ≡ length s.snapshots + 1 = length_push s.snapshots shot in
    let there : IsSnapshotKept (effect (s.place + 1) (SnapshotTaken [] doc) s) (get_or (s.snapshots ++ shot ∷ []) (length s.snapshots) no_snapshot) = (snap_kept s [] doc (s.place + 1) (omega arith) kept within two).snapshots (length s.snapshots) no_snapshot (omega arith) in
    subst (λ (one : Snapshot). AreHolders one.holders) (get_or_push s.snapshots shot no_snapshot (length s.snapshots) refl) there.holders

-- the layers of a snapshot that steps leave are coherent
pub shots_cohere : (s : ProjectState) (shot : Snapshot) (rows : List (List ℕ × Annotations)) → ((conf : Configuration) (characters : ℕ) (layer : Annotations) → IsLayer layer → IsWellFormed conf characters layer → IsCoherent layer)
    → IsSnapshotKept s shot → rows ≡ shot.holders → All (λ (held : List ℕ × Annotations). IsCoherent held.1) rows
shots_cohere s shot rows law kept is = subst (λ (rs : List (List ℕ × Annotations)). All (λ (held : List ℕ × Annotations). IsCoherent held.1) rs) (sym is)
    (λ k d low. let one = kept.layers k d low in law s.conf (length (text_of s shot)) _ one.typed.kept one.obeys.well_formed)

-- the finished layers of the document of a name are holders
pub taken_hold : (s : ProjectState) (name : List ℕ) (doc : ℕ) (items : List (List ℕ × Arc Annotations Global)) → IsKept s → is_there s name ≡ true → doc ≡ number_of s name → map row_of items ≡ finished_rows s doc → 2 ≤ length items → AreHolders (map row_of items)
taken_hold s name doc items kept there d is two =
    let size : length (map row_of items) ≡ length items = length-map items row_of in
    let same : length (map row_of items) ≡ length (finished_rows s doc) = ap length is in
    subst AreHolders (sym is) (finished_hold s doc kept (subst (λ (n : ℕ). n < length s.documents) (sym d) (number_within s name there)) (omega arith))
