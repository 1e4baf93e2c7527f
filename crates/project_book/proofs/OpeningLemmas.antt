-- A history that was told again, over the keeper of its entries, and the freeing of the layers that are out.
use Rattle.std.proofs.Common.{◌≡◌, ◌⊎◌, ℕ, true, false, cond, List, [], ◌∷◌, ◌++◌, Option, Some, None, IfSome, refl, sym, ◌∙◌, ap, subst, inl, inr}
use Rattle.std.specs.Prelude.{Err, IsErrOf}
use Rattle.label_tracks.specs.Levels.{Grouping}
use Rattle.kappa_alpha.specs.Standing.{Standing}
use Rattle.project_journal.specs.declared.keeper.KeeperFault.{KeeperFault}
use Rattle.project_journal.specs.declared.keeper.KeeperFault.TheVariants as keeper
use Rattle.project_journal.specs.Keeper.{IsKeptOrDoubt, IsKeptOrOneMore}
use Rattle.project_journal.specs.Stops.{LeavesOnly}
use Rattle.project_machine.specs.ProjectState.{ProjectState, is_some_out}
use Rattle.project_machine.specs.Requests.{Happened, AllFreed}
use Rattle.project_machine.specs.Asking.{IsKeptBy, IsNext, StaysOrGoes}
use Rattle.project_machine.specs.History.{after, encoded}
use Rattle.project_machine.specs.Legal.{HasRoom, IsLegal}
use Rattle.project_machine.specs.Opening.{IsFreeingDoubted, IsGivenBack, IsKeptOpen, IsLeftByOpening, IsOpened, IsReplay, IsToFree, freeing_bytes, with_freeing}
use Rattle.project_steps.specs.declared.steps.judging.Kept.{Kept}
use Rattle.project_steps.specs.Steps.Judging.{kept_happens}
use Rattle.project_book.specs.declared.open_fault.OpenFault.{OpenFault}
use Rattle.project_book.specs.declared.open_fault.OpenFault.TheVariants as fault
use Rattle.project_book.specs.Keeping.{Stands}
use Rattle.project_book.specs.Opening.{IsOnlyOpened, IsOpenRefusal}
use Rattle.project_book.specs.Replaying.{IsFreeing, IsReplayRefusal}
use Rattle.project_book.proofs.BookLemmas.{leaves_still}
use Rattle.project_book.proofs.ReplayLemmas.{whole_history}

none_some : {X : Type 0} (x : X) → None ≡ Some x → ⊥
none_some x e = cc

-- over its keeper a project stands
pub stands_over : (log : List Happened) (state : ProjectState) (groups : Grouping) (tables : Standing) (told_before : Option (List (List ℕ))) (doubt_before : Option (List ℕ)) (told : Option (List (List ℕ))) (doubt : Option (List ℕ))
    → Stands log state groups tables told_before doubt_before → IfSome told (λ es. es ≡ encoded log) → doubt ≡ None → Stands log state groups tables told doubt
stands_over log state groups tables told_before doubt_before told doubt stands same certain = record {
  legal = stands.legal;
  room = stands.room;
  state_is = stands.state_is;
  tables_are = stands.tables_are;
  groups_are = stands.groups_are;
  kept_is = record { entries = same; next = subst (λ o. IfSome o (IsNext log)) (sym certain) tt };
}

-- what a keeper of some entries tells are those of the history that they tell
pub told_again : (entries : List (List ℕ)) (log : List Happened) (told : Option (List (List ℕ))) → IsReplay entries log → IfSome told (λ es. es ≡ entries) → IfSome told (λ es. es ≡ encoded log)
told_again entries log None replay is = tt
told_again entries log (Some es) replay is = is ∙ replay.told

pub told_back : (entries : List (List ℕ)) (log : List Happened) (told : Option (List (List ℕ))) → IsReplay entries log → IfSome told (λ es. es ≡ encoded log) → IfSome told (λ es. es ≡ entries)
told_back entries log None replay is = tt
told_back entries log (Some es) replay is = is ∙ sym replay.told

-- ---- the freeing

-- where no layer is out, nothing is freed
pub nothing_freed : (log : List Happened) → is_some_out (after log) ≡ false → log ≡ with_freeing log
nothing_freed log none = sym (ap (λ b. cond b (log ++ AllFreed ∷ []) log) none)

pub is_freed : (log now : List Happened) (change : Kept) → IsFreeing log (Some change) → now ≡ log ++ kept_happens change ∷ [] → now ≡ with_freeing log
is_freed log now change is more = more ∙ (ap (λ e. log ++ e ∷ []) is.2 ∙ sym (ap (λ b. cond b (log ++ AllFreed ∷ []) log) is.3))

some_same : {X : Type 0} (x y : X) → Some x ≡ Some y → x ≡ y
some_same x y e = cc

-- where a keeper tells the entries of a history of which some layer is out, they are to be freed
to_free : (entries : List (List ℕ)) (log : List Happened) (told : Option (List (List ℕ))) → IsLegal log → is_some_out (after log) ≡ true → IfSome told (λ es. es ≡ encoded log) → told ≡ Some entries → IsToFree entries
to_free entries log None legal out is same = absurd (none_some entries same)
to_free entries log (Some es) legal out is same = record { log = log; legal = legal; told = sym (some_same es entries same) ∙ is; out = out }

one_or_more : (entries : List (List ℕ)) (found : Option (List (List ℕ))) → IsToFree entries → IsKeptOrOneMore entries None freeing_bytes found → IsLeftByOpening entries found
one_or_more entries found out (inl same) = inl same
one_or_more entries found out (inr (inl more)) = inr (out, more)
one_or_more entries found out (inr (inr none)) = absurd none

alone : (entries : List (List ℕ)) (found : Option (List (List ℕ))) → IsKeptOrDoubt entries None found → IsLeftByOpening entries found
alone entries found (inl same) = inl same
alone entries found (inr none) = absurd none

weaker : {K : Type 0} (moment : K → ℕ) (left_since : K → ℕ → Option (List (List ℕ)) → Type 0) (old new : K) (P Q : Option (List (List ℕ)) → Type 0) → ((found : Option (List (List ℕ))) → P found → Q found) → LeavesOnly moment left_since old new P → LeavesOnly moment left_since old new Q
weaker moment left_since old new P Q to is = record {
  later = is.later;
  each = λ x left. to x (is.each x left);
  before = λ t x h left. either x (is.before t x h left);
}
  where
    either : {L : Type 0} (x : Option (List (List ℕ))) → L ⊎ P x → L ⊎ Q x
    either x (inl l) = inl l
    either x (inr p) = inr (to x p)

-- what a stop leaves where a freeing was handed to the keeper
pub left_freeing : {K : Type 0} (kept : K → Option (List (List ℕ))) (doubt : K → Option (List ℕ)) (moment : K → ℕ) (left_since : K → ℕ → Option (List (List ℕ)) → Type 0) (old new : K) (log : List Happened) (change : Kept) → doubt old ≡ None → IsLegal log → IsKeptBy log (kept old) (doubt old) → IsFreeing log (Some change)
    → ((entries : List (List ℕ)) → kept old ≡ Some entries → LeavesOnly moment left_since old new (IsKeptOrOneMore entries (doubt old) change.entry)) → (entries : List (List ℕ)) → kept old ≡ Some entries → LeavesOnly moment left_since old new (IsLeftByOpening entries)
left_freeing kept doubt moment left_since old new log change certain legal by is left entries told =
    weaker moment left_since old new (IsKeptOrOneMore entries None freeing_bytes) (IsLeftByOpening entries) (λ found. one_or_more entries found (to_free entries log (kept old) legal is.3 by.entries told))
    (subst (λ d. LeavesOnly moment left_since old new (IsKeptOrOneMore entries d freeing_bytes)) certain (subst (λ b. LeavesOnly moment left_since old new (IsKeptOrOneMore entries (doubt old) b)) is.1 (left entries told)))

-- and where nothing was
pub left_alone : {K : Type 0} (kept : K → Option (List (List ℕ))) (doubt : K → Option (List ℕ)) (moment : K → ℕ) (left_since : K → ℕ → Option (List (List ℕ)) → Type 0)
    → ((k : K) (entries : List (List ℕ)) (found : Option (List (List ℕ))) → kept k ≡ Some entries → left_since k (moment k) found → IsKeptOrDoubt entries (doubt k) found)
    → (k : K) → doubt k ≡ None → (entries : List (List ℕ)) → kept k ≡ Some entries → LeavesOnly moment left_since k k (IsLeftByOpening entries)
left_alone kept doubt moment left_since now k certain entries told =
    leaves_still moment left_since k (IsLeftByOpening entries) (λ found left. alone entries found (subst (λ d. IsKeptOrDoubt entries d found) certain (now k entries found told left)))

stays_none : (old new : Option (List ℕ)) → old ≡ None → StaysOrGoes old new → new ≡ None
stays_none old new none (inl same) = same ∙ none
stays_none old new none (inr gone) = gone

-- what is in doubt behind a freeing that was refused
pub doubt_freeing : {T : Type 0} (f : KeeperFault) (old new : Option (List ℕ)) (log : List Happened) (change : Kept) → old ≡ None → IsLegal log → IsFreeing log (Some change)
    → (IsErrOf {T = T} (Err f) keeper.Failed → StaysOrGoes old new ⊎ (new ≡ Some change.entry)) → (IsErrOf {T = T} (Err f) keeper.Memory → StaysOrGoes old new) → (new ≡ None) ⊎ IsFreeingDoubted (encoded log) (f ≡ keeper.Failed) new
doubt_freeing keeper.Failed old new log change none legal is failed memory = by (failed refl)
  where
    by : StaysOrGoes old new ⊎ (new ≡ Some change.entry) → (new ≡ None) ⊎ IsFreeingDoubted (encoded log) (keeper.Failed ≡ keeper.Failed) new
    by (inl stays) = inl (stays_none old new none stays)
    by (inr own) = inr (record { out = record { log = log; legal = legal; told = refl; out = is.3 }; cause = refl; freeing = own ∙ ap (λ (b : List ℕ). Some b) is.1 })
doubt_freeing keeper.Memory old new log change none legal is failed memory = inl (stays_none old new none (memory refl))

-- ---- what an opening answers

pub refused_so : (entries : List (List ℕ)) (f : OpenFault) → IsReplayRefusal entries f → IsOpenRefusal entries f
refused_so entries (fault.BadEntry number) is = is
refused_so entries fault.Memory is = tt
refused_so entries fault.Keeper is = tt

pub not_the_keeper : (entries : List (List ℕ)) (f : OpenFault) → IsReplayRefusal entries f → f ≡ fault.Keeper → ⊥
not_the_keeper entries f is e = subst (IsReplayRefusal entries) e is

pub given_back : (entries : List (List ℕ)) (failed : Type 0) (told : Option (List (List ℕ))) (doubt : Option (List ℕ)) → IfSome told (λ es. es ≡ entries) → doubt ≡ None → IsGivenBack entries failed told doubt
given_back entries failed told doubt same certain = record { same = same; doubtful = inl certain }

-- what is in doubt behind an opening whose freeing was refused
pub given_back_freeing : (entries : List (List ℕ)) (log : List Happened) (failed now : Type 0) (told : Option (List (List ℕ))) (doubt : Option (List ℕ)) → IsReplay entries log → IfSome told (λ es. es ≡ encoded log) → (failed → now) → (doubt ≡ None) ⊎ IsFreeingDoubted (encoded log) failed doubt
    → IsGivenBack entries now told doubt
given_back_freeing entries log failed now told doubt replay is cause (inl certain) = given_back entries now told doubt (told_back entries log told replay is) certain
given_back_freeing entries log failed now told doubt replay is cause (inr freeing) = record {
  same = told_back entries log told replay is;
  doubtful = inr (record { out = subst IsToFree (sym replay.told) freeing.out; cause = cause freeing.cause; freeing = freeing.freeing });
}

pub opened : (entries : List (List ℕ)) (log now : List Happened) → IsReplay entries log → now ≡ with_freeing log → IsOpened entries now
opened entries log now replay is = record { log = log; legal = replay.legal; told = replay.told; freed = is }

pub only_opened : (entries : List (List ℕ)) (log now : List Happened) → IsReplay entries log → now ≡ with_freeing log → IsOnlyOpened entries now
only_opened entries log now replay is other opened = opened.freed ∙ (ap with_freeing (whole_history entries log opened.log replay opened.legal opened.told) ∙ sym is)

pub kept_open : (log : List Happened) (told : Option (List (List ℕ))) (doubt : Option (List ℕ)) → IsKeptBy log told doubt → doubt ≡ None → HasRoom log → IsKeptOpen log told doubt
kept_open log told doubt by certain room = record { all = by.entries; certain = certain; room = room }
