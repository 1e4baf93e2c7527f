-- What the one visitor of a book sees.
use Rattle.std.proofs.Common.{◌≡◌, ℕ, ◌+◌, ◌-◌, ◌<◌, ◌≤◌, true, List, [], ◌∷◌, ◌++◌, length, get_or, slice_get, take, nat_le, Option, Some, None, zero, suc, refl, sym, ◌∙◌, ap, subst, arith, inl, if◌then◌else◌}
use Rattle.std.specs.Prelude.{slice_index}
use Rattle.std.specs.List.{range_with_len}
use Rattle.std.specs.Option.{option_map_or, option_to_list}
use Rattle.std.proofs.lemmas.List.{append-nil}
use Rattle.std.proofs.lemmas.List.FromFn.{length-range_with_len, get_or-range_with_len}
use Rattle.std.proofs.lemmas.Bool.{le-leb, leb-true, lt-ltb, le-ltb}
use Rattle.project_machine.specs.declared.book_refusal.BookRefusal.TheVariants as no
use Rattle.project_machine.specs.Requests.{Asked, Answered, Refused, Happened}
use Rattle.project_machine.specs.Machine.{step}
use Rattle.project_machine.specs.History.{after, begin, last}
use Rattle.project_machine.specs.Legal.{HasRoom, IsLegal}
use Rattle.project_machine.specs.ProjectState.{ProjectState}
use Rattle.project_machine.specs.Tables.{standing_of}
use Rattle.project_machine.specs.Asking.{IsStep, IsVisiting, StaysFaultless, Visited, Visiting, steps, wants_memory, is_not_kept, gained}
use Rattle.project_machine.proofs.HistoryLemmas.{begin_more, legal_some, length_push}
use Rattle.kappa_alpha.specs.Standing.{Standing}
use Rattle.project_state.specs.declared.tables.tabling.TableAct.{TableAct}
use Rattle.project_state.specs.declared.tables.tabling.TableAct.TheVariants as table
use Rattle.project_state.specs.Tables.Tabling.{most_steps, tabling_of}
use Rattle.project_book.specs.Keeping.{AreTables, GoesAlong, TellsKeeper, tabling_behind}
use Rattle.project_book.specs.Visits.{all_but_last, own_steps, places_above, steps_behind, visiting_alone}

at_place : (a n k : ℕ) → k < n → slice_index (range_with_len a n) k ≡ a + k
at_place a n k h = get_or-range_with_len a n k 0 h

-- places above one ascend, and lie within the history
pub keeps_alone : (log : List Happened) (began faults room : ℕ) → HasRoom log → begin log ≤ began → began ≤ last log → IsVisiting (visiting_alone log began faults room)
keeps_alone log began faults room short low high =
    let size : length (places_above began log) ≡ last log - began = length-range_with_len (began + 1) (last log - began) in
    record {
      short = short;
      ascending = λ k h.
          let here : slice_index (places_above began log) k ≡ began + 1 + k = at_place (began + 1) (last log - began) k (omega arith) in
          let next : slice_index (places_above began log) (k + 1) ≡ began + 1 + (k + 1) = at_place (began + 1) (last log - began) (k + 1) (omega arith) in
          omega arith;
      within = λ k d h.
          let here : get_or (places_above began log) k d ≡ began + 1 + k = get_or-range_with_len (began + 1) (last log - began) k d (omega arith) in
          (omega arith, omega arith);
    }

range_more : (a n : ℕ) → range_with_len a (suc n) ≡ range_with_len a n ++ (a + n) ∷ []
range_more a zero = ap (λ m. m ∷ []) (omega arith)
range_more a (suc n) = ap (λ rest. a ∷ rest) (range_more (a + 1) n ∙ ap (λ m. range_with_len (a + 1) n ++ m ∷ []) (omega arith))

last_push : (log : List Happened) (e : Happened) → 0 < length log → last (log ++ e ∷ []) ≡ last log + 1
last_push log e h =
    let first : begin (log ++ e ∷ []) ≡ begin log = begin_more log (e ∷ []) h in
    let more : length (log ++ e ∷ []) ≡ length log + 1 = length_push log e in
    omega arith

gained_more : (log : List Happened) (e : Happened) → gained log (log ++ e ∷ []) ≡ last (log ++ e ∷ []) ∷ []
gained_more log e =
    let more : length (log ++ e ∷ []) ≡ length log + 1 = length_push log e in
    ap (λ b. if b then last (log ++ e ∷ []) ∷ [] else []) (lt-ltb (length log) (length (log ++ e ∷ [])) (omega arith))

gained_none : (log : List Happened) → gained log log ≡ []
gained_none log = ap (λ b. if b then last log ∷ [] else []) (le-ltb (length log) (length log) (omega arith))

places_more : (log : List Happened) (began : ℕ) (e : Happened) → 0 < length log → began ≤ last log → places_above began (log ++ e ∷ []) ≡ places_above began log ++ gained log (log ++ e ∷ [])
places_more log began e some h =
    let at : last (log ++ e ∷ []) ≡ last log + 1 = last_push log e some in
    let count : last (log ++ e ∷ []) - began ≡ suc (last log - began) = omega arith in
    let here : began + 1 + (last log - began) ≡ last (log ++ e ∷ []) = omega arith in
    ap (range_with_len (began + 1)) count
    ∙ (range_more (began + 1) (last log - began) ∙ (ap (λ n. places_above began log ++ n ∷ []) here ∙ ap (λ ns. places_above began log ++ ns) (sym (gained_more log e))))

-- the history behind a request, and what holds of it
pub data Moves (log now : List Happened) : Type 0 where
  stays : now ≡ log → Moves log now
  grows : (e : Happened) → now ≡ log ++ e ∷ [] → Moves log now

by_change : (log now : List Happened) (c : Option Happened) → now ≡ log ++ option_to_list c → Moves log now
by_change log now None is = stays (is ∙ append-nil log)
by_change log now (Some e) is = grows e is

pub moves_by : (log now : List Happened) (caller : List ℕ) (asked : Asked) (answer : Answered) → IsStep log caller asked answer now → Moves log now
moves_by log now caller asked answer (steps is to room) = by_change log now (step (after log) caller asked).change to
moves_by log now caller asked answer (wants_memory is same) = stays same
moves_by log now caller asked answer (is_not_kept is same made room) = stays same

mine_is : (log now : List Happened) (began : ℕ) → 0 < length log → began ≤ last log → Moves log now → places_above began now ≡ places_above began log ++ gained log now
mine_is log now began some h (stays same) =
    ap (places_above began) same ∙ (sym (append-nil (places_above began log)) ∙ ap (λ ns. places_above began log ++ ns) (sym (ap (gained log) same ∙ gained_none log)))
mine_is log now began some h (grows e is) =
    subst (λ n. places_above began n ≡ places_above began log ++ gained log n) (sym is) (places_more log began e some h)

pub began_stays : (log now : List Happened) (began : ℕ) → IsLegal log → began ≤ last log → Moves log now → began ≤ last now
began_stays log now began legal h (stays same) = subst (λ n. began ≤ last n) (sym same) h
began_stays log now began legal h (grows e is) =
    subst (λ n. began ≤ last n) (sym is) (let at : last (log ++ e ∷ []) ≡ last log + 1 = last_push log e (legal_some log legal) in omega arith)

pub begin_stays : (log now : List Happened) (began : ℕ) → IsLegal log → begin log ≤ began → Moves log now → begin now ≤ began
begin_stays log now began legal h (stays same) = subst (λ n. begin n ≤ began) (sym same) h
begin_stays log now began legal h (grows e is) = subst (λ n. begin n ≤ began) (sym is) (subst (λ n. n ≤ began) (sym (begin_more log (e ∷ []) (legal_some log legal))) h)

later_spent : (old new : ℕ) → old ≤ new → nat_le 18446744073709551615 old ≡ true → nat_le 18446744073709551615 new ≡ true
later_spent old new h is = le-leb 18446744073709551615 new (let low : 18446744073709551615 ≤ old = leb-true 18446744073709551615 old is in omega arith)

-- one request of the visitor that owns the book
pub visited_alone : {K : Type 0} (faults : K → ℕ) (faultless : K → Type 0) (keeper keeper_now : K) (log now : List Happened) (caller : List ℕ) (asked : Asked) (answer : Answered) (began room : ℕ)
    → IsLegal log → IsLegal now → HasRoom now → began ≤ last log → 0 < room → IsStep log caller asked answer now → TellsKeeper faults faultless keeper keeper_now (answer ≡ Refused no.Keeper [])
    → Visited (visiting_alone log began (faults keeper) room) (visiting_alone now began (faults keeper_now) (room - 1)) caller asked answer
visited_alone faults faultless keeper keeper_now log now caller asked answer began room legal legal_now short h some is told = record {
  replied = record {
    others = [];
    stepped = subst (λ l. IsStep l caller asked answer now) (sym (append-nil log)) is;
    mine_is = subst (λ l. places_above began now ≡ places_above began log ++ gained l now) (sym (append-nil log)) (mine_is log now began (legal_some log legal) h (moves_by log now caller asked answer is));
  };
  room = omega arith;
  badge = refl;
  later = told.later;
  cause = λ e. inl (told.cause.rose e);
  stays_spent = later_spent (faults keeper) (faults keeper_now) told.later;
  legal = λ _. legal_now;
  short = λ _. short;
}

pub faultless_alone : {K : Type 0} (faults : K → ℕ) (faultless : K → Type 0) (keeper keeper_now : K) (log now : List Happened) (answer : Answered) (began room room_now : ℕ) → TellsKeeper faults faultless keeper keeper_now (answer ≡ Refused no.Keeper [])
    → StaysFaultless (faultless keeper) (faultless keeper_now) (visiting_alone log began (faults keeper) room) (visiting_alone now began (faults keeper_now) room_now) answer
faultless_alone faults faultless keeper keeper_now log now answer began room room_now told = λ was. ((told.stays was).0, (told.stays was).1, told.never was)

-- ---- the steps of a request

spare_apart : (t : TableAct) (s : ProjectState) (spare : ℕ) → most_steps t (standing_of s spare) ≡ most_steps t (standing_of s 0)
spare_apart (table.Admit tokens) s spare = refl
spare_apart (table.Post doc rater row) s spare = refl
spare_apart (table.Drop doc rater) s spare = refl
spare_apart table.Nothing s spare = refl

-- a request of a book takes the steps of its change at most
pub few_book : (log now : List Happened) (tables tables_now : Standing) (before behind : ℕ) → AreTables (after log) tables → GoesAlong (tabling_behind log now) tables tables_now before behind
    → behind ≤ before + steps_behind log now
few_book log now tables tables_now before behind are along =
    subst (λ n. behind ≤ before + n) (ap (most_steps (tabling_behind log now)) are ∙ spare_apart (tabling_behind log now) (after log) tables.spare) along.few

nothing_behind : {X : Type 0} (xs : List X) → slice_get xs (length xs) ≡ None
nothing_behind [] = refl
nothing_behind (x ∷ xs) = nothing_behind xs

front_pushed : (log : List Happened) (e : Happened) → all_but_last (log ++ e ∷ []) ≡ log
front_pushed log e =
    let more : length (log ++ e ∷ []) ≡ length log + 1 = length_push log e in
    let front : length (log ++ e ∷ []) - 1 ≡ length log = omega arith in
    ap (λ n. take n (log ++ e ∷ [])) front ∙ front_of log
  where
    front_of : (xs : List Happened) → take (length xs) (xs ++ e ∷ []) ≡ xs
    front_of [] = refl
    front_of (x ∷ xs) = ap (λ rest. x ∷ rest) (front_of xs)

-- what is asked of the history that a visitor finds takes the steps of the visitor's own change at most
pub few_own : (old new : Visiting) (log : List Happened) (before behind : ℕ) → Moves log new.seen → new.mine ≡ old.mine ++ gained log new.seen → behind ≤ before + steps_behind log new.seen → behind ≤ before + own_steps old new
few_own old new log before behind (stays same) mine few =
    let none : tabling_behind log new.seen ≡ table.Nothing =
    ap (λ o. option_map_or (tabling_of (after log)) o table.Nothing) (ap (λ (l : List Happened). slice_get l (length log)) same ∙ nothing_behind log) in
    let still : steps_behind log new.seen ≡ 0 = ap (λ t. most_steps t (standing_of (after log) 0)) none in
    omega arith
few_own old new log before behind (grows e is) mine few =
    let own : new.mine ≡ old.mine ++ last new.seen ∷ [] = mine ∙ ap (λ ns. old.mine ++ ns) (ap (gained log) is ∙ (gained_more log e ∙ ap (λ (l : List Happened). last l ∷ []) (sym is))) in
    let more : length new.mine ≡ length old.mine + 1 = ap length own ∙ length_more old.mine (last new.seen) in
    let front : all_but_last new.seen ≡ log = ap all_but_last is ∙ front_pushed log e in
    let same : steps_behind log new.seen ≡ own_steps old new =
    sym (ap (λ b. if b then steps_behind (all_but_last new.seen) new.seen else 0) (lt-ltb (length old.mine) (length new.mine) (omega arith)) ∙ ap (λ (l : List Happened). steps_behind l new.seen) front) in
    subst (λ n. behind ≤ before + n) same few
  where
    length_more : (ns : List ℕ) (n : ℕ) → length (ns ++ n ∷ []) ≡ length ns + 1
    length_more [] n = refl
    length_more (m ∷ ns) n = let rest : length (ns ++ n ∷ []) ≡ length ns + 1 = length_more ns n in omega arith

-- one request of the visitor that owns the book
pub few_alone : (log now : List Happened) (began faults faults_now room room_now : ℕ) (tables tables_now : Standing) (before behind : ℕ) (caller : List ℕ) (asked : Asked) (answer : Answered)
    → IsLegal log → began ≤ last log → IsStep log caller asked answer now → AreTables (after log) tables → GoesAlong (tabling_behind log now) tables tables_now before behind
    → behind ≤ before + own_steps (visiting_alone log began faults room) (visiting_alone now began faults_now room_now)
few_alone log now began faults faults_now room room_now tables tables_now before behind caller asked answer legal h is are along =
    let moves : Moves log now = moves_by log now caller asked answer is in
    few_own (visiting_alone log began faults room) (visiting_alone now began faults_now room_now) log before behind moves (mine_is log now began (legal_some log legal) h moves) (few_book log now tables tables_now before behind are along)
