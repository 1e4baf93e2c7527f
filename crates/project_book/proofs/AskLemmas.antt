-- What a request makes of a book, by each way out of it.
use Rattle.std.proofs.Common.{◌≡◌, ◌⊎◌, ℕ, ◌+◌, true, false, List, [], ◌∷◌, ◌++◌, length, Option, Some, None, IfSome, IsSome, is_some, option_map, refl, sym, ◌∙◌, ap, subst, arith, inl, inr, length-append}
use Rattle.std.specs.Prelude.{Ok, Err, IsErrOf}
use Rattle.std.specs.Option.{option_to_list}
use Rattle.std.proofs.lemmas.List.{append-nil}
use Rattle.project_journal.specs.declared.keeper.KeeperFault.{KeeperFault}
use Rattle.project_journal.specs.declared.keeper.KeeperFault.TheVariants as keeper
use Rattle.project_journal.specs.Keeper.{IsKeptOrDoubt, IsKeptOrOneMore}
use Rattle.project_journal.specs.Stops.{LeavesOnly}
use Rattle.project_machine.specs.declared.book_refusal.BookRefusal.TheVariants as no
use Rattle.project_machine.specs.Requests.{Asked, Answered, Refused, Happened}
use Rattle.project_machine.specs.Machine.{step}
use Rattle.project_machine.specs.History.{after, encoded}
use Rattle.project_machine.specs.Legal.{HasRoom, IsLegal, legal_step}
use Rattle.project_machine.specs.RequestValues.{IsAsked}
use Rattle.project_machine.specs.Asking.{IsDoubted, IsKeptBy, IsLeftByAsk, IsLeftWith, StaysOrGoes, steps, wants_memory, is_not_kept, entry_behind, own_entry, stepped_on}
use Rattle.label_tracks.specs.Levels.{Grouping}
use Rattle.kappa_alpha.specs.Standing.{Standing}
use Rattle.project_machine.specs.ProjectState.{ProjectState}
use Rattle.project_state.specs.Values.{answer_of}
use Rattle.project_steps.specs.declared.steps.judging.Judged.{Judged}
use Rattle.project_steps.specs.declared.steps.judging.Kept.{Kept}
use Rattle.project_steps.specs.Steps.Judging.{IsJudged, IsKeptChange, kept_happens}
use Rattle.project_book.specs.Keeping.{BookValue, Follows, GoesAlong, Stands, TellsKeeper, tabling_behind}
use Rattle.project_book.specs.Answering.{IsAnswered, answer_behind}
use Rattle.project_book.specs.Replaying.{IsMadeBy}
use Rattle.project_book.proofs.StepLemmas.{never_keeper}
use Rattle.project_book.proofs.BookLemmas.{along_still, leaves_still, or_more}

longer : (log : List Happened) (e : Happened) → log ≡ log ++ e ∷ [] → ⊥
longer log e same = (let more : length (log ++ e ∷ []) ≡ length log + 1 = omega (arith, length-append log (e ∷ [])) in let size : length log ≡ length (log ++ e ∷ []) = ap length same in omega arith)

memory_keeper : Refused no.Memory [] ≡ Refused no.Keeper [] → ⊥
memory_keeper e = cc

none_some : {X : Type 0} (x : X) → None ≡ Some x → ⊥
none_some x e = cc

told_is : (log : List Happened) (told : Option (List (List ℕ))) (doubt : Option (List ℕ)) (entries : List (List ℕ)) → IsKeptBy log told doubt → told ≡ Some entries → entries ≡ encoded log
told_is log told doubt entries by is = subst (λ o. IfSome o (λ es. es ≡ encoded log)) is by.entries

left_by : (own : Option (List ℕ)) (log : List Happened) (doubt : Option (List ℕ)) (found : Option (List (List ℕ))) → IsKeptOrDoubt (encoded log) doubt found → IsLeftWith own log doubt found
left_by None log doubt found left = left
left_by (Some own) log doubt found left = or_more (encoded log) doubt own found left

false_true : false ≡ true → ⊥
false_true e = cc

none_is_some : {o : Option Happened} → IsSome o → o ≡ None → ⊥
none_is_some some none = false_true (sym (ap is_some none) ∙ some)

-- ---- nothing was handed to the keeper

module _ {K : Type 0} (kept : K → Option (List (List ℕ))) (doubt : K → Option (List ℕ)) (moment : K → ℕ) (left_since : K → ℕ → Option (List (List ℕ)) → Type 0) (faults : K → ℕ) (faultless : K → Type 0) where
  moment_still : (old : BookValue K) (caller : List ℕ) (asked : Asked) → IsKeptBy old.log (kept old.keeper) (doubt old.keeper)
      → ((entries : List (List ℕ)) (found : Option (List (List ℕ))) → kept old.keeper ≡ Some entries → left_since old.keeper (moment old.keeper) found → IsKeptOrDoubt entries (doubt old.keeper) found)
      → (entries : List (List ℕ)) → kept old.keeper ≡ Some entries → LeavesOnly moment left_since old.keeper old.keeper (IsLeftByAsk old.log (doubt old.keeper) caller asked)
  moment_still old caller asked by now entries is =
      leaves_still moment left_since old.keeper (IsLeftByAsk old.log (doubt old.keeper) caller asked)
      (λ found left. left_by (own_entry old.log caller asked) old.log (doubt old.keeper) found
      (subst (λ es. IsKeptOrDoubt es (doubt old.keeper) found) (told_is old.log (kept old.keeper) (doubt old.keeper) entries by is) (now entries found is left)))

  still_told : (k : K) (failed : Type 0) → (failed → ⊥) → TellsKeeper faults faultless k k failed
  still_told k failed not_so = record {
    later = omega arith;
    cause = record { rose = λ f. absurd (not_so f); still = λ _. refl };
    stays = λ w. (w, refl);
    never = λ w f. not_so f;
  }

  doubt_still : (log : List Happened) (caller : List ℕ) (asked : Asked) (answer : Answered) (d : Option (List ℕ)) → (answer ≡ Refused no.Keeper [] → ⊥) → IsDoubted log caller asked answer log d d
  doubt_still log caller asked answer d not_so = record {
    kept = λ change e. absurd (longer log change e);
    not_kept = λ e. absurd (not_so e);
    otherwise = λ _. inl refl;
  }

  -- memory ran out before the keeper was asked
  pub unasked : (old : BookValue K) (caller : List ℕ) (asked : Asked) (ticks : ℕ) → IsKeptBy old.log (kept old.keeper) (doubt old.keeper)
      → ((entries : List (List ℕ)) (found : Option (List (List ℕ))) → kept old.keeper ≡ Some entries → left_since old.keeper (moment old.keeper) found → IsKeptOrDoubt entries (doubt old.keeper) found)
      → IsAnswered kept doubt moment left_since faults faultless old old caller asked (Refused no.Memory []) ticks ticks
  unasked old caller asked ticks by now = record {
    step = wants_memory refl refl;
    doubted = doubt_still old.log caller asked (Refused no.Memory []) (doubt old.keeper) memory_keeper;
    any_moment = moment_still old caller asked by now;
    keeper = still_told old.keeper (Refused no.Memory [] ≡ Refused no.Keeper []) memory_keeper;
    tables = along_still old.log old.log old.tables old.tables ticks refl refl;
  }

  step_not : (log : List Happened) (caller : List ℕ) (asked : Asked) (answer : Answered) → answer ≡ (step (after log) caller asked).answer → answer ≡ Refused no.Keeper [] → ⊥
  step_not log caller asked answer is e = never_keeper (after log) caller asked [] (sym is ∙ e)

  nothing_more : (log : List Happened) (caller : List ℕ) (asked : Asked) → (step (after log) caller asked).change ≡ None → log ≡ stepped_on log caller asked
  nothing_more log caller asked none = sym (ap (λ c. log ++ option_to_list c) none ∙ append-nil log)

  one_more : (log : List Happened) (caller : List ℕ) (asked : Asked) (e : Happened) → (step (after log) caller asked).change ≡ Some e → stepped_on log caller asked ≡ log ++ e ∷ []
  one_more log caller asked e made = ap (λ c. log ++ option_to_list c) made

  -- a request that makes nothing happen
  pub only_answered : (old : BookValue K) (caller : List ℕ) (asked : Asked) (answer : Answered) (ticks : ℕ) → IsKeptBy old.log (kept old.keeper) (doubt old.keeper)
      → ((entries : List (List ℕ)) (found : Option (List (List ℕ))) → kept old.keeper ≡ Some entries → left_since old.keeper (moment old.keeper) found → IsKeptOrDoubt entries (doubt old.keeper) found)
      → answer ≡ (step (after old.log) caller asked).answer → (step (after old.log) caller asked).change ≡ None
      → IsAnswered kept doubt moment left_since faults faultless old old caller asked answer ticks ticks
  only_answered old caller asked answer ticks by now is none = record {
    step = steps is (nothing_more old.log caller asked none) (λ some. absurd (none_is_some some none));
    doubted = doubt_still old.log caller asked answer (doubt old.keeper) (step_not old.log caller asked answer is);
    any_moment = moment_still old caller asked by now;
    keeper = still_told old.keeper (answer ≡ Refused no.Keeper []) (step_not old.log caller asked answer is);
    tables = along_still old.log old.log old.tables old.tables ticks refl refl;
  }

  -- ---- a change was handed to the keeper

  weaker : (old new : K) (P Q : Option (List (List ℕ)) → Type 0) → ((found : Option (List (List ℕ))) → P found → Q found) → LeavesOnly moment left_since old new P → LeavesOnly moment left_since old new Q
  weaker old new P Q to is = record {
    later = is.later;
    each = λ x left. to x (is.each x left);
    before = λ t x h left. either x (is.before t x h left);
  }
    where
      either : {L : Type 0} (x : Option (List (List ℕ))) → L ⊎ P x → L ⊎ Q x
      either x (inl l) = inl l
      either x (inr p) = inr (to x p)

  own_is : (log : List Happened) (caller : List ℕ) (asked : Asked) (change : Kept) → (step (after log) caller asked).change ≡ Some (kept_happens change) → IsKeptChange (after log) change → own_entry log caller asked ≡ Some change.entry
  own_is log caller asked change made is = ap (option_map (entry_behind log)) made ∙ ap (λ (bytes : List ℕ). Some bytes) (sym is.entry)

  handed : (log : List Happened) (caller : List ℕ) (asked : Asked) (change : Kept) (d : Option (List ℕ)) (entries : List (List ℕ)) (old new : K) → (step (after log) caller asked).change ≡ Some (kept_happens change) → IsKeptChange (after log) change
      → entries ≡ encoded log → LeavesOnly moment left_since old new (IsKeptOrOneMore entries d change.entry) → LeavesOnly moment left_since old new (IsLeftByAsk log d caller asked)
  handed log caller asked change d entries old new made is same left =
      weaker old new (IsKeptOrOneMore entries d change.entry) (IsLeftByAsk log d caller asked)
      (λ found one. subst (λ own. IsLeftWith own log d found) (sym (own_is log caller asked change made is)) (subst (λ es. IsKeptOrOneMore es d change.entry found) same one)) left

  some_made : (log : List Happened) (caller : List ℕ) (asked : Asked) (e : Happened) → (step (after log) caller asked).change ≡ Some e → IsSome (step (after log) caller asked).change
  some_made log caller asked e made = ap is_some made

  -- the change was kept
  pub was_kept : (old new : BookValue K) (caller : List ℕ) (asked : Asked) (answer : Answered) (change : Kept) (before now : ℕ) → IsKeptBy old.log (kept old.keeper) (doubt old.keeper)
      → answer ≡ (step (after old.log) caller asked).answer → (step (after old.log) caller asked).change ≡ Some (kept_happens change) → IsKeptChange (after old.log) change
      → new.log ≡ old.log ++ kept_happens change ∷ [] → HasRoom (old.log ++ kept_happens change ∷ []) → doubt new.keeper ≡ None
      → ((entries : List (List ℕ)) → kept old.keeper ≡ Some entries → LeavesOnly moment left_since old.keeper new.keeper (IsKeptOrOneMore entries (doubt old.keeper) change.entry))
      → (failed : Type 0) → (failed → ⊥) → TellsKeeper faults faultless old.keeper new.keeper failed → GoesAlong (tabling_behind old.log new.log) old.tables new.tables before now
      → IsAnswered kept doubt moment left_since faults faultless old new caller asked answer before now
  was_kept old new caller asked answer change before now by is made change_is more room none left failed not_so told along = record {
    step = steps is (more ∙ sym (one_more old.log caller asked (kept_happens change) made)) (λ _. subst HasRoom (sym more) room);
    doubted = record { kept = λ _ _. none; not_kept = λ e. absurd (step_not old.log caller asked answer is e); otherwise = λ _. inr none };
    any_moment = λ entries e. handed old.log caller asked change (doubt old.keeper) entries old.keeper new.keeper made change_is (told_is old.log (kept old.keeper) (doubt old.keeper) entries by e) (left entries e);
    keeper = record {
      later = told.later;
      cause = record { rose = λ e. absurd (step_not old.log caller asked answer is e); still = λ _. told.cause.still not_so };
      stays = told.stays;
      never = λ w e. step_not old.log caller asked answer is e;
    };
    tables = along;
  }

  -- the keeper failed
  pub has_failed : (old new : BookValue K) (caller : List ℕ) (asked : Asked) (change : Kept) (before now : ℕ) → IsKeptBy old.log (kept old.keeper) (doubt old.keeper)
      → (step (after old.log) caller asked).change ≡ Some (kept_happens change) → IsKeptChange (after old.log) change
      → new.log ≡ old.log → HasRoom (old.log ++ kept_happens change ∷ []) → StaysOrGoes (doubt old.keeper) (doubt new.keeper) ⊎ (doubt new.keeper ≡ Some change.entry)
      → ((entries : List (List ℕ)) → kept old.keeper ≡ Some entries → LeavesOnly moment left_since old.keeper new.keeper (IsKeptOrOneMore entries (doubt old.keeper) change.entry))
      → (failed : Type 0) → failed → TellsKeeper faults faultless old.keeper new.keeper failed → GoesAlong (tabling_behind old.log new.log) old.tables new.tables before now
      → IsAnswered kept doubt moment left_since faults faultless old new caller asked (Refused no.Keeper []) before now
  has_failed old new caller asked change before now by made change_is same room said left failed so told along = record {
    step = is_not_kept refl same (some_made old.log caller asked (kept_happens change) made) (subst HasRoom (sym (one_more old.log caller asked (kept_happens change) made)) room);
    doubted = record { kept = λ e is. absurd (longer old.log e (sym same ∙ is)); not_kept = λ _. own said; otherwise = λ not_so. absurd (not_so refl) };
    any_moment = λ entries e. handed old.log caller asked change (doubt old.keeper) entries old.keeper new.keeper made change_is (told_is old.log (kept old.keeper) (doubt old.keeper) entries by e) (left entries e);
    keeper = record { later = told.later; cause = record { rose = λ _. told.cause.rose so; still = λ not_so. absurd (not_so refl) }; stays = told.stays; never = λ w _. told.never w so };
    tables = along;
  }
    where
      own : StaysOrGoes (doubt old.keeper) (doubt new.keeper) ⊎ (doubt new.keeper ≡ Some change.entry) → StaysOrGoes (doubt old.keeper) (doubt new.keeper) ⊎ (doubt new.keeper ≡ own_entry old.log caller asked)
      own (inl o) = inl o
      own (inr e) = inr (e ∙ sym (own_is old.log caller asked change made change_is))

  -- memory ran out before the change was kept
  pub had_no_memory : (old new : BookValue K) (caller : List ℕ) (asked : Asked) (change : Kept) (before now : ℕ) → IsKeptBy old.log (kept old.keeper) (doubt old.keeper)
      → (step (after old.log) caller asked).change ≡ Some (kept_happens change) → IsKeptChange (after old.log) change
      → new.log ≡ old.log → StaysOrGoes (doubt old.keeper) (doubt new.keeper)
      → ((entries : List (List ℕ)) → kept old.keeper ≡ Some entries → LeavesOnly moment left_since old.keeper new.keeper (IsKeptOrOneMore entries (doubt old.keeper) change.entry))
      → (failed : Type 0) → (failed → ⊥) → TellsKeeper faults faultless old.keeper new.keeper failed → GoesAlong (tabling_behind old.log new.log) old.tables new.tables before now
      → IsAnswered kept doubt moment left_since faults faultless old new caller asked (Refused no.Memory []) before now
  had_no_memory old new caller asked change before now by made change_is same said left failed not_so told along = record {
    step = wants_memory refl same;
    doubted = record { kept = λ e is. absurd (longer old.log e (sym same ∙ is)); not_kept = λ e. absurd (memory_keeper e); otherwise = λ _. said };
    any_moment = λ entries e. handed old.log caller asked change (doubt old.keeper) entries old.keeper new.keeper made change_is (told_is old.log (kept old.keeper) (doubt old.keeper) entries by e) (left entries e);
    keeper = record { later = told.later; cause = record { rose = λ e. absurd (memory_keeper e); still = λ _. told.cause.still not_so }; stays = told.stays; never = λ w e. memory_keeper e };
    tables = along;
  }

  -- ---- by what was judged

  -- a request of which nothing is kept
  pub only_told : (old : BookValue K) (caller : List ℕ) (asked : Asked) (judged : Judged) (ticks : ℕ) → IsKeptBy old.log (kept old.keeper) (doubt old.keeper)
      → ((entries : List (List ℕ)) (found : Option (List (List ℕ))) → kept old.keeper ≡ Some entries → left_since old.keeper (moment old.keeper) found → IsKeptOrDoubt entries (doubt old.keeper) found)
      → IsJudged (after old.log) caller asked judged → judged.kept ≡ None → IsAnswered kept doubt moment left_since faults faultless old old caller asked (answer_of judged.reply) ticks ticks
  only_told old caller asked judged ticks by now is none = only_answered old caller asked (answer_of judged.reply) ticks by now is.answer (sym is.change ∙ ap (option_map kept_happens) none)

  made_by : (s : ProjectState) (caller : List ℕ) (asked : Asked) (judged : Judged) (change : Kept) → IsJudged s caller asked judged → judged.kept ≡ Some change → (step s caller asked).change ≡ Some (kept_happens change)
  made_by s caller asked judged change is there = sym is.change ∙ ap (option_map kept_happens) there

  kept_by : (s : ProjectState) (caller : List ℕ) (asked : Asked) (judged : Judged) (change : Kept) → IsJudged s caller asked judged → judged.kept ≡ Some change → IsKeptChange s change
  kept_by s caller asked judged change is there = subst (λ (o : Option Kept). IfSome o (IsKeptChange s)) there is.kept

  ok_err : {T : Type 0} (x : T) (e : KeeperFault) → Ok x ≡ Err e → ⊥
  ok_err x e is = cc

  failed_memory : {T : Type 0} → IsErrOf {T = T} (Err keeper.Memory) keeper.Failed → ⊥
  failed_memory is = cc

  -- a request whose change was kept
  pub keeps_it : {T : Type 0} (x : T) (old new : BookValue K) (caller : List ℕ) (asked : Asked) (judged : Judged) (change : Kept) (before now : ℕ) → IsKeptBy old.log (kept old.keeper) (doubt old.keeper)
      → IsJudged (after old.log) caller asked judged → judged.kept ≡ Some change
      → new.log ≡ old.log ++ kept_happens change ∷ [] → HasRoom (old.log ++ kept_happens change ∷ []) → doubt new.keeper ≡ None
      → ((entries : List (List ℕ)) → kept old.keeper ≡ Some entries → LeavesOnly moment left_since old.keeper new.keeper (IsKeptOrOneMore entries (doubt old.keeper) change.entry))
      → TellsKeeper faults faultless old.keeper new.keeper (IsErrOf (Ok x) keeper.Failed) → GoesAlong (tabling_behind old.log new.log) old.tables new.tables before now
      → IsAnswered kept doubt moment left_since faults faultless old new caller asked (answer_of judged.reply) before now
  keeps_it x old new caller asked judged change before now by is there more room none left told along =
      was_kept old new caller asked (answer_of judged.reply) change before now by is.answer (made_by (after old.log) caller asked judged change is there) (kept_by (after old.log) caller asked judged change is there)
      more room none left (IsErrOf (Ok x) keeper.Failed) (ok_err x keeper.Failed) told along

  -- a request whose change was not kept
  pub refuses_it : {T : Type 0} (f : KeeperFault) (old new : BookValue K) (caller : List ℕ) (asked : Asked) (judged : Judged) (change : Kept) (before now : ℕ) → IsKeptBy old.log (kept old.keeper) (doubt old.keeper)
      → IsJudged (after old.log) caller asked judged → judged.kept ≡ Some change
      → new.log ≡ old.log → (IsErrOf {T = T} (Err f) keeper.Failed → HasRoom (old.log ++ kept_happens change ∷ []))
      → (IsErrOf {T = T} (Err f) keeper.Failed → StaysOrGoes (doubt old.keeper) (doubt new.keeper) ⊎ (doubt new.keeper ≡ Some change.entry)) → (IsErrOf {T = T} (Err f) keeper.Memory → StaysOrGoes (doubt old.keeper) (doubt new.keeper))
      → ((entries : List (List ℕ)) → kept old.keeper ≡ Some entries → LeavesOnly moment left_since old.keeper new.keeper (IsKeptOrOneMore entries (doubt old.keeper) change.entry))
      → TellsKeeper faults faultless old.keeper new.keeper (IsErrOf {T = T} (Err f) keeper.Failed) → GoesAlong (tabling_behind old.log new.log) old.tables new.tables before now
      → IsAnswered kept doubt moment left_since faults faultless old new caller asked (answer_behind (Err f)) before now
  refuses_it keeper.Failed old new caller asked judged change before now by is there same room said memory left told along =
      has_failed old new caller asked change before now by (made_by (after old.log) caller asked judged change is there) (kept_by (after old.log) caller asked judged change is there)
      same (room refl) (said refl) left _ refl told along
  refuses_it keeper.Memory old new caller asked judged change before now by is there same room said memory left told along =
      had_no_memory old new caller asked change before now by (made_by (after old.log) caller asked judged change is there) (kept_by (after old.log) caller asked judged change is there)
      same (memory refl) left _ failed_memory told along

-- what was judged at the state of a book
pub judged_at : {K : Type 0} (b now : BookValue K) (state : ProjectState) (groups : Grouping) (tables : Standing) (told : Option (List (List ℕ))) (doubt : Option (List ℕ)) (caller : List ℕ) (asked : Asked) (judged : Judged)
    → b ≡ now → Stands b.log state groups tables told doubt → IsJudged state caller asked judged → IsJudged (after now.log) caller asked judged
judged_at b now state groups tables told doubt caller asked judged same stands is = subst (λ (s : ProjectState). IsJudged s caller asked judged) (stands.state_is ∙ ap (λ x. after x.log) same) is

-- the change of a request goes on with the history
pub follows_judged : (log : List Happened) (caller : List ℕ) (asked : Asked) (judged : Judged) (change : Kept) → IsLegal log → IsAsked asked → IsJudged (after log) caller asked judged → judged.kept ≡ Some change → Follows log change
follows_judged log caller asked judged change legal typed is there = record {
  legal = legal_step log caller asked (kept_happens change) legal typed (sym is.change ∙ ap (option_map kept_happens) there);
  change = subst (λ (o : Option Kept). IfSome o (IsKeptChange (after log))) there is.kept;
}

made_by_kept : (log : List Happened) (asking : List ℕ × Asked) (judged : Judged) (o : Option Kept) → judged.kept ≡ o → IsLegal log → IsAsked asking.1 → IsJudged (after log) asking.0 asking.1 judged → IsMadeBy log asking o
made_by_kept log asking judged None there legal typed is = sym is.change ∙ ap (option_map kept_happens) there
made_by_kept log asking judged (Some change) there legal typed is = (sym is.change ∙ ap (option_map kept_happens) there, follows_judged log asking.0 asking.1 judged change legal typed is there)

-- what is kept of a request is the change that it makes
pub made_judged : (log : List Happened) (asking : List ℕ × Asked) (judged : Judged) → IsLegal log → IsAsked asking.1 → IsJudged (after log) asking.0 asking.1 judged → IsMadeBy log asking judged.kept
made_judged log asking judged legal typed is = made_by_kept log asking judged judged.kept refl legal typed is
