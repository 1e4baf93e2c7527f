-- What a book keeps, behind a change that was kept and behind one that was not.
use Rattle.std.proofs.Common.{◌≡◌, ◌⊎◌, ℕ, ◌+◌, ◌-◌, ◌<◌, ◌≤◌, ◌^◌, List, [], ◌∷◌, ◌++◌, length, map, slice_get, Option, Some, None, IfSome, option_map, refl, sym, ◌∙◌, ap, subst, arith, inl, inr}
use Rattle.std.specs.Prelude.{Result, Err, IsErrOf}
use Rattle.std.specs.Option.{option_map_or}
use Rattle.mark_base.specs.Streams.{TellsFault}
use Rattle.project_journal.specs.declared.keeper.KeeperFault.{KeeperFault}
use Rattle.project_journal.specs.declared.keeper.KeeperFault.TheVariants as keeper
use Rattle.entry_bytes.specs.Entries.{entry_bytes}
use Rattle.label_tracks.specs.Levels.{Grouping, grouping_of}
use Rattle.kappa_alpha.specs.Standing.{Standing}
use Rattle.project_journal.specs.Keeper.{IsKeptOrDoubt, IsKeptOrOneMore}
use Rattle.project_journal.specs.Stops.{LeavesOnly}
use Rattle.project_machine.specs.ProjectState.{ProjectState}
use Rattle.project_machine.specs.Requests.{Happened, Founded, TextAdded, CheckedOut, TakenOver, LayerCommitted, LayerParked, LayerFinished, LayerReopened, LayerIgnored, LayerReadmitted, SnapshotTaken, ItemDecided, ItemUndecided, AllFreed, Restored}
use Rattle.project_machine.specs.Entries.{entries_of, entry_of}
use Rattle.project_machine.specs.History.{after, effect, encoded, last, place_behind}
use Rattle.project_machine.specs.Legal.{HasRoom, IsLegal}
use Rattle.project_machine.specs.Tables.{standing_of}
use Rattle.project_machine.specs.Asking.{IsKeptBy, IsNext, StaysOrGoes}
use Rattle.project_machine.proofs.HistoryLemmas.{after_more, last_low, legal_some, length_push, place_last, step_next}
use Rattle.project_machine.proofs.OpenLemmas.{encoded_more}
use Rattle.project_state.specs.declared.act.Act.{Act}
use Rattle.project_state.specs.declared.act.Act.TheVariants as act
use Rattle.project_state.specs.Acting.{performed}
use Rattle.project_steps.specs.declared.steps.judging.Kept.{Kept}
use Rattle.project_steps.specs.Steps.Judging.{kept_happens}
use Rattle.project_state.specs.declared.tables.tabling.TableAct.{TableAct}
use Rattle.project_state.specs.declared.tables.tabling.TableAct.TheVariants as table
use Rattle.project_state.specs.Tables.Tabling.{CanTable, HasSpare, IsTableAct, most_steps, spare_behind, tabled, tabling_by, tabling_of}
use Rattle.project_book.specs.Keeping.{AreTables, Follows, GoesAlong, Stands, TellsKeeper, tabling_behind}
use Rattle.project_book.proofs.EntryLemmas.{Goes, by_freeing, by_request, goes}

-- ---- the history goes on

placed : (log : List Happened) (e : Happened) (n : ℕ) → Goes log e → place_behind e n ≡ n + 1
placed log e n (by_request caller asked typed is) = step_next (after log) caller asked e n is
placed log e n (by_freeing same is) = ap (λ (x : Happened). place_behind x n) same

-- what goes on with a history stands at the next place
next_place : (log : List Happened) (kept : Kept) (n : ℕ) → 0 < length log → Follows log kept → place_behind (kept_happens kept) n ≡ n + 1
next_place log kept n some next = placed log (kept_happens kept) n (goes log (kept_happens kept) some next.legal)

-- the act makes the state behind the change
pub follows_state : (log : List Happened) (kept : Kept) → 0 < length log → Follows log kept → performed kept.act (after log) ≡ after (log ++ kept_happens kept ∷ [])
follows_state log kept some next =
    next.change.acts ∙ sym (after_more log (kept_happens kept) ∙ ap (λ n. effect n (kept_happens kept) (after log)) (next_place log kept (after log).place some next))

-- a change that stands at the next place has one entry
pub one_entry : (s : ProjectState) (e : Happened) → place_behind e 0 ≡ 1 → place_behind e 1 ≡ 2 → entries_of s e ≡ entry_of s e ∷ []
one_entry s (Founded conf level people) first second = refl
one_entry s (TextAdded by name text) first second = refl
one_entry s (CheckedOut by doc) first second = refl
one_entry s (TakenOver by doc) first second = refl
one_entry s (LayerCommitted by doc hold layer) first second = refl
one_entry s (LayerParked by doc hold done undone) first second = refl
one_entry s (LayerFinished by doc) first second = refl
one_entry s (LayerReopened by doc who) first second = refl
one_entry s (LayerIgnored by doc who) first second = refl
one_entry s (LayerReadmitted by doc who) first second = refl
one_entry s (SnapshotTaken by doc) first second = refl
one_entry s (ItemDecided by number holder id verdict) first second = refl
one_entry s (ItemUndecided by number holder id) first second = refl
one_entry s AllFreed first second = refl
one_entry s (Restored place state) first second = absurd (omega (arith, first, second))

-- the entries of a history that goes on by a change are one more
pub follows_encoded : (log : List Happened) (kept : Kept) → 0 < length log → Follows log kept → encoded (log ++ kept_happens kept ∷ []) ≡ encoded log ++ kept.entry ∷ []
follows_encoded log kept some next =
    encoded_more log (kept_happens kept)
    ∙ (ap (λ es. encoded log ++ map entry_bytes es) (one_entry (after log) (kept_happens kept) (next_place log kept 0 some next) (next_place log kept 1 some next))
    ∙ ap (λ bytes. encoded log ++ bytes ∷ []) (sym next.change.entry))

-- ---- what the keeper tells

told_more : (log : List Happened) (kept : Kept) (old : Option (List (List ℕ))) → 0 < length log → Follows log kept → IfSome old (λ told. told ≡ encoded log)
    → IfSome (option_map (λ entries. entries ++ kept.entry ∷ []) old) (λ told. told ≡ encoded (log ++ kept_happens kept ∷ []))
told_more log kept None some next is = tt
told_more log kept (Some told) some next is = ap (λ es. es ++ kept.entry ∷ []) is ∙ sym (follows_encoded log kept some next)

pub kept_more : (log : List Happened) (kept : Kept) (old new : Option (List (List ℕ))) (doubt doubt_new : Option (List ℕ)) → 0 < length log → Follows log kept → IsKeptBy log old doubt
    → new ≡ option_map (λ entries. entries ++ kept.entry ∷ []) old → doubt_new ≡ None → IsKeptBy (log ++ kept_happens kept ∷ []) new doubt_new
kept_more log kept old new doubt doubt_new some next by is none = record {
  entries = subst (λ o. IfSome o (λ told. told ≡ encoded (log ++ kept_happens kept ∷ []))) (sym is) (told_more log kept old some next by.entries);
  next = subst (λ o. IfSome o (IsNext (log ++ kept_happens kept ∷ []))) (sym none) tt;
}

follows_next : (log : List Happened) (kept : Kept) → IsLegal log → Follows log kept → IsNext log kept.entry
follows_next log kept legal next = record { change = kept_happens kept; legal = next.legal; entry = next.change.entry }

next_kept : (log : List Happened) (kept : Kept) (doubt new : Option (List ℕ)) → IsLegal log → Follows log kept → IfSome doubt (IsNext log) → StaysOrGoes doubt new ⊎ (new ≡ Some kept.entry) → IfSome new (IsNext log)
next_kept log kept doubt new legal next is (inl (inl same)) = subst (λ o. IfSome o (IsNext log)) (sym same) is
next_kept log kept doubt new legal next is (inl (inr none)) = subst (λ o. IfSome o (IsNext log)) (sym none) tt
next_kept log kept doubt new legal next is (inr own) = subst (λ o. IfSome o (IsNext log)) (sym own) (follows_next log kept legal next)

-- where the keeper refused a change, its entries are as before, and what is in doubt could be next
pub kept_still : (log : List Happened) (kept : Kept) (old new : Option (List (List ℕ))) (doubt doubt_new : Option (List ℕ)) → IsLegal log → Follows log kept → IsKeptBy log old doubt
    → new ≡ old → StaysOrGoes doubt doubt_new ⊎ (doubt_new ≡ Some kept.entry) → IsKeptBy log new doubt_new
kept_still log kept old new doubt doubt_new legal next by same said = record {
  entries = subst (λ o. IfSome o (λ told. told ≡ encoded log)) (sym same) by.entries;
  next = next_kept log kept doubt doubt_new legal next by.next said;
}

-- ---- the tables go along

spare_there : (t : TableAct) (spare : ℕ) → 1 ≤ spare → HasSpare t spare
spare_there (table.Admit tokens) spare h = h
spare_there (table.Post doc rater row) spare h = tt
spare_there (table.Drop doc rater) spare h = tt
spare_there table.Nothing spare h = tt

-- the tables, with room made, are still those of the state
pub roomy : (s : ProjectState) (old new : Standing) → AreTables s old → new ≡ record old { spare = new.spare } → AreTables s new
roomy s old new are same = same ∙ ap (λ (t : Standing). record t { spare = new.spare }) are

-- an act can be done to tables with room
pub can_table : (s : ProjectState) (done : Act) (t : TableAct) (tables : Standing) → AreTables s tables → IsTableAct s done t → 1 ≤ tables.spare → CanTable t tables
can_table s done t tables are is h = subst (CanTable t) (sym are) (is.fits tables.spare (spare_there t tables.spare h))

pub tables_behind : (s : ProjectState) (done : Act) (t : TableAct) (tables new : Standing) → AreTables s tables → IsTableAct s done t → new ≡ tabled t tables → AreTables (performed done s) new
tables_behind s done t tables new are is made =
    let all : new ≡ standing_of (performed done s) (spare_behind t tables.spare) = made ∙ (ap (tabled t) are ∙ is.stands tables.spare) in
    all ∙ ap (standing_of (performed done s)) (sym (ap (λ (x : Standing). x.spare) all))

spare_free : (t : TableAct) (tables : Standing) (spare : ℕ) → most_steps t (record tables { spare = spare }) ≡ most_steps t tables
spare_free (table.Admit tokens) tables spare = refl
spare_free (table.Post doc rater row) tables spare = refl
spare_free (table.Drop doc rater) tables spare = refl
spare_free table.Nothing tables spare = refl

-- what stands behind a list
get_behind : {X : Type 0} (xs : List X) → slice_get xs (length xs) ≡ None
get_behind [] = refl
get_behind (x ∷ xs) = get_behind xs

get_pushed : {X : Type 0} (xs : List X) (x : X) → slice_get (xs ++ x ∷ []) (length xs) ≡ Some x
get_pushed [] x = refl
get_pushed (y ∷ xs) x = get_pushed xs x

-- what is done to the tables where nothing happens, and behind one change
tabling_none : (log now : List Happened) → now ≡ log → tabling_behind log now ≡ table.Nothing
tabling_none log now same = ap (λ o. option_map_or (tabling_of (after log)) o table.Nothing) (ap (λ (l : List Happened). slice_get l (length log)) same ∙ get_behind log)

tabling_one : (log now : List Happened) (e : Happened) → now ≡ log ++ e ∷ [] → tabling_behind log now ≡ tabling_of (after log) e
tabling_one log now e more = ap (λ o. option_map_or (tabling_of (after log)) o table.Nothing) (ap (λ (l : List Happened). slice_get l (length log)) more ∙ get_pushed log e)

along_one : (t : TableAct) (old roomed new : Standing) (before now : ℕ) → roomed ≡ record old { spare = roomed.spare } → new ≡ tabled t roomed → now ≤ before + most_steps t roomed → GoesAlong t old new before now
along_one t old roomed new before now same made few = record {
  spare = roomed.spare;
  moved = made ∙ ap (tabled t) same;
  few = subst (λ n. now ≤ before + n) (ap (most_steps t) same ∙ spare_free t old roomed.spare) few;
}

-- the act of a change was done to the tables, with room made
pub along : (log now : List Happened) (kept : Kept) (state : ProjectState) (t : TableAct) (old roomed new : Standing) (before behind : ℕ) → Follows log kept → now ≡ log ++ kept_happens kept ∷ [] → state ≡ after log → IsTableAct state kept.act t
    → roomed ≡ record old { spare = roomed.spare } → new ≡ tabled t roomed → behind ≤ before + most_steps t roomed → GoesAlong (tabling_behind log now) old new before behind
along log now kept state t old roomed new before behind next more here tabling same made few =
    let is : t ≡ tabling_behind log now = tabling.is ∙ (ap (λ (s : ProjectState). tabling_by s kept.act) here ∙ (next.change.tables ∙ sym (tabling_one log now (kept_happens kept) more))) in
    subst (λ (x : TableAct). GoesAlong x old new before behind) is (along_one t old roomed new before behind same made few)

-- nothing was done to the tables but to make room
pub along_still : (log now : List Happened) (old new : Standing) (steps : ℕ) → now ≡ log → new ≡ record old { spare = new.spare } → GoesAlong (tabling_behind log now) old new steps steps
along_still log now old new steps still same =
    subst (λ (x : TableAct). GoesAlong x old new steps steps) (sym (tabling_none log now still)) (record { spare = new.spare; moved = same; few = omega arith })

-- ---- the groups stay

performed_conf : (done : Act) (s : ProjectState) → grouping_of (performed done s).conf.types (performed done s).level ≡ grouping_of s.conf.types s.level
performed_conf (act.AddDocument added) s = refl
performed_conf (act.Hold doc rater) s = refl
performed_conf (act.Commit doc rater layer) s = refl
performed_conf (act.Park doc rater done undone) s = refl
performed_conf (act.Finish doc rater finished) s = refl
performed_conf (act.Ignore doc rater ignored) s = refl
performed_conf (act.Snap taken) s = refl
performed_conf (act.Decide number decisions) s = refl
performed_conf act.FreeAll s = refl

pub groups_stay : (done : Act) (s : ProjectState) (groups : Grouping) → groups ≡ grouping_of s.conf.types s.level → groups ≡ grouping_of (performed done s).conf.types (performed done s).level
groups_stay done s groups is = is ∙ sym (performed_conf done s)

-- ---- room

pub room_more : (log : List Happened) (e : Happened) → length log < 4611686018427387904 → HasRoom (log ++ e ∷ [])
room_more log e h = let more : length (log ++ e ∷ []) ≡ length log + 1 = length_push log e in omega arith

pub place_low : (log : List Happened) → IsLegal log → HasRoom log → (after log).place < 2 ^ 64 - 1
place_low log legal room =
    let at : (after log).place ≡ last log = place_last log legal in
    let low : last log < 2 ^ 63 = last_low log legal room in
    omega arith

-- ---- a book behind a change

pub stands_next : (log : List Happened) (kept : Kept) (state_old state : ProjectState) (groups : Grouping) (tables_old roomed tables : Standing) (told_old told : Option (List (List ℕ))) (doubt_old doubt : Option (List ℕ)) (t : TableAct)
    → Stands log state_old groups tables_old told_old doubt_old → Follows log kept → length log < 4611686018427387904 → IsTableAct state_old kept.act t
    → roomed ≡ record tables_old { spare = roomed.spare } → tables ≡ tabled t roomed → state ≡ performed kept.act state_old
    → told ≡ option_map (λ entries. entries ++ kept.entry ∷ []) told_old → doubt ≡ None → Stands (log ++ kept_happens kept ∷ []) state groups tables told doubt
stands_next log kept state_old state groups tables_old roomed tables told_old told doubt_old doubt t stands next short tabling made_room made performs told_is certain = record {
  legal = next.legal;
  room = room_more log (kept_happens kept) short;
  state_is = performs ∙ (ap (performed kept.act) stands.state_is ∙ follows_state log kept (legal_some log stands.legal) next);
  tables_are = subst (λ (s : ProjectState). AreTables s tables) (sym performs) (tables_behind state_old kept.act t roomed tables (roomy state_old tables_old roomed stands.tables_are made_room) tabling made);
  groups_are = subst (λ (s : ProjectState). groups ≡ grouping_of s.conf.types s.level) (sym performs) (groups_stay kept.act state_old groups stands.groups_are);
  kept_is = kept_more log kept told_old told doubt_old doubt (legal_some log stands.legal) next stands.kept_is told_is certain;
}

-- a book where room was made, and where the keeper refused a change
pub stands_still : (log : List Happened) (kept : Kept) (state_old state : ProjectState) (groups : Grouping) (tables_old tables : Standing) (told_old told : Option (List (List ℕ))) (doubt_old doubt : Option (List ℕ))
    → Stands log state_old groups tables_old told_old doubt_old → Follows log kept → tables ≡ record tables_old { spare = tables.spare } → state ≡ state_old
    → told ≡ told_old → StaysOrGoes doubt_old doubt ⊎ (doubt ≡ Some kept.entry) → Stands log state groups tables told doubt
stands_still log kept state_old state groups tables_old tables told_old told doubt_old doubt stands next made_room same told_same said = record {
  legal = stands.legal;
  room = stands.room;
  state_is = same ∙ stands.state_is;
  tables_are = subst (λ (s : ProjectState). AreTables s tables) (sym same) (roomy state_old tables_old tables stands.tables_are made_room);
  groups_are = subst (λ (s : ProjectState). groups ≡ grouping_of s.conf.types s.level) (sym same) stands.groups_are;
  kept_is = kept_still log kept told_old told doubt_old doubt stands.legal next stands.kept_is told_same said;
}

-- ---- what a stop leaves where nothing is appended

pub leaves_still : {K : Type 0} (moment : K → ℕ) (left_since : K → ℕ → Option (List (List ℕ)) → Type 0) (k : K) (P : Option (List (List ℕ)) → Type 0)
    → ((found : Option (List (List ℕ))) → left_since k (moment k) found → P found) → LeavesOnly moment left_since k k P
leaves_still moment left_since k P now = record { later = omega arith; each = now; before = λ t x h left. inl left }

pub or_more : (entries : List (List ℕ)) (doubt : Option (List ℕ)) (entry : List ℕ) (found : Option (List (List ℕ))) → IsKeptOrDoubt entries doubt found → IsKeptOrOneMore entries doubt entry found
or_more entries doubt entry found (inl same) = inl same
or_more entries doubt entry found (inr more) = inr (inr more)

-- a book stands at the last place of its history
pub stands_place : (log : List Happened) (state : ProjectState) (groups : Grouping) (tables : Standing) (told : Option (List (List ℕ))) (doubt : Option (List ℕ)) → Stands log state groups tables told doubt → state.place ≡ last log
stands_place log state groups tables told doubt is = ap (λ (s : ProjectState). s.place) is.state_is ∙ place_last log is.legal

-- ---- the fields of a book that is changed

-- where nothing was handed to the keeper
pub moment_nothing : {K : Type 0} (kept : K → Option (List (List ℕ))) (doubt : K → Option (List ℕ)) (moment : K → ℕ) (left_since : K → ℕ → Option (List (List ℕ)) → Type 0)
    → ((k : K) (entries : List (List ℕ)) (found : Option (List (List ℕ))) → kept k ≡ Some entries → left_since k (moment k) found → IsKeptOrDoubt entries (doubt k) found)
    → (k old : K) (entry : List ℕ) → old ≡ k → (entries : List (List ℕ)) → kept old ≡ Some entries → LeavesOnly moment left_since old k (IsKeptOrOneMore entries (doubt old) entry)
moment_nothing kept doubt moment left_since now k old entry same =
    subst (λ x. (entries : List (List ℕ)) → kept x ≡ Some entries → LeavesOnly moment left_since x k (IsKeptOrOneMore entries (doubt x) entry)) (sym same)
    (λ entries told. leaves_still moment left_since k (IsKeptOrOneMore entries (doubt k) entry) (λ found left. or_more entries (doubt k) entry found (now k entries found told left)))

-- what is told of the keeper's faults by an append
pub keeper_tells : {K T : Type 0} (faults : K → ℕ) (faultless : K → Type 0) (k old new : K) (r s : Result T KeeperFault) → old ≡ k → r ≡ s → faults k ≤ faults new → TellsFault (IsErrOf r keeper.Failed) (faults k) (faults new)
    → (faultless k → faultless new × (faults new ≡ faults k)) → (faultless k → IsErrOf r keeper.Failed → ⊥) → TellsKeeper faults faultless old new (IsErrOf s keeper.Failed)
keeper_tells {K} {T} faults faultless k old new r s same is later cause stays never =
    subst (λ x. TellsKeeper faults faultless x new (IsErrOf s keeper.Failed)) (sym same)
    (subst (λ (x : Result T KeeperFault). TellsKeeper faults faultless k new (IsErrOf x keeper.Failed)) is (record { later = later; cause = cause; stays = stays; never = never }))

-- what is in doubt behind a refusal
pub said_by : {T : Type 0} (r : Result T KeeperFault) (f : KeeperFault) (old new : Option (List ℕ)) (entry : List ℕ) → r ≡ Err f
    → (IsErrOf r keeper.Failed → (new ≡ old) ⊎ ((new ≡ None) ⊎ (new ≡ Some entry))) → (IsErrOf r keeper.Memory → StaysOrGoes old new) → StaysOrGoes old new ⊎ (new ≡ Some entry)
said_by r keeper.Failed old new entry is failed memory = by (failed is)
  where
    by : (new ≡ old) ⊎ ((new ≡ None) ⊎ (new ≡ Some entry)) → StaysOrGoes old new ⊎ (new ≡ Some entry)
    by (inl same) = inl (inl same)
    by (inr (inl none)) = inl (inr none)
    by (inr (inr own)) = inr own
said_by r keeper.Memory old new entry is failed memory = inl (memory is)

pub place_room : (log : List Happened) (old new : ProjectState) (groups : Grouping) (tables : Standing) (told : Option (List (List ℕ))) (doubt : Option (List ℕ)) → Stands log old groups tables told doubt → new ≡ old → new.place < 18446744073709551615
place_room log old new groups tables told doubt is same =
    let low : (after log).place < 2 ^ 64 - 1 = place_low log is.legal is.room in
    subst (λ (s : ProjectState). s.place < 18446744073709551615) (sym (same ∙ is.state_is)) low
