-- What a longer history makes of its places.
use Rattle.std.proofs.Common.{◌≡◌, ℕ, ◌+◌, ◌<◌, ◌≤◌, List, [], ◌∷◌, ◌++◌, length, Option, Some, None, refl, sym, ap, ◌∙◌, subst, arith, length-append, if◌then◌else◌}
use Rattle.std.specs.Option.{option_to_list}
use Rattle.std.proofs.lemmas.List.{append-nil}
use Rattle.std.proofs.lemmas.Bool.{lt-ltb, le-ltb}
use mathlib.Core.List.{IsPrefix}
use Rattle.project_machine.specs.Requests.{Asked, Answered, Happened}
use Rattle.project_machine.specs.Machine.{step}
use Rattle.project_machine.specs.History.{after, begin, last}
use Rattle.project_machine.specs.Asking.{IsStep, steps, wants_memory, is_not_kept, gained}
use Rattle.project_machine.proofs.HistoryLemmas.{begin_more, length_push}
use Rattle.turn_hall.specs.Counts.{within, times, AscendWithin, ArePlacesOf}
use Rattle.turn_hall.proofs.PlaceLemmas.{ascend_wider}

-- a history that goes on from another begins where that one does, and ends no earlier
pub goes_on : (log now : List Happened) → 0 < length log → IsPrefix log now → (begin now ≡ begin log) × (last log ≤ last now)
goes_on log now some p =
    let first : begin now ≡ begin log = ap begin (sym p.1) ∙ begin_more log p.0 some in
    let size : length now ≡ length log + length p.0 = ap length (sym p.1) ∙ length-append log p.0 in
    (first, omega arith)

pub places_go_on : (log now : List Happened) (ps : List ℕ) → IsPrefix log now → ArePlacesOf log ps → ArePlacesOf now ps
places_go_on log now [] p a = tt
places_go_on [] now (q ∷ qs) p a = absurd (let x = a.0 in let y = a.1 in omega arith)
places_go_on (e ∷ log) now (q ∷ qs) p a =
    let on = goes_on (e ∷ log) now (omega arith) p in
    let first = on.0 in
    ascend_wider (begin (e ∷ log)) (begin now) (last (e ∷ log)) (last now) (q ∷ qs) (omega arith) on.1 a

-- a history went on with one change, or with none
pub record IsGrown (log now : List Happened) : Type 0 where
  pub more : IsPrefix log now
  pub first : begin now ≡ begin log
  pub later : last log ≤ last now
  pub places : (p : ℕ) → times p (gained log now) ≡ within (last log + 1) (last now + 1) p
  pub ascend : AscendWithin (last log) (last now) (gained log now)

gained_none : (log : List Happened) → gained log log ≡ []
gained_none log = ap (λ b. if b then last log ∷ [] else []) (le-ltb (length log) (length log) (omega arith))

gained_one : (log : List Happened) (e : Happened) → gained log (log ++ e ∷ []) ≡ last (log ++ e ∷ []) ∷ []
gained_one log e =
    let more : length (log ++ e ∷ []) ≡ length log + 1 = length_push log e in
    ap (λ b. if b then last (log ++ e ∷ []) ∷ [] else []) (lt-ltb (length log) (length (log ++ e ∷ [])) (omega arith))

grown_none : (log : List Happened) → IsGrown log log
grown_none log = record {
  more = ([], append-nil log);
  first = refl;
  later = omega arith;
  places = λ p. ap (times p) (gained_none log) ∙ omega arith;
  ascend = subst (AscendWithin (last log) (last log)) (sym (gained_none log)) tt;
}

grown_one : (log : List Happened) (e : Happened) → 0 < length log → IsGrown log (log ++ e ∷ [])
grown_one log e some =
    let now = log ++ e ∷ [] in
    let first : begin now ≡ begin log = begin_more log (e ∷ []) some in
    let size : length now ≡ length log + 1 = length_push log e in
    let at : last now ≡ last log + 1 = omega arith in record {
      more = (e ∷ [], refl);
      first = first;
      later = omega arith;
      places = λ p. ap (times p) (gained_one log e) ∙ omega arith;
      ascend = subst (AscendWithin (last log) (last now)) (sym (gained_one log e)) (omega arith, omega arith, tt);
    }

by_change : (log now : List Happened) (c : Option Happened) → 0 < length log → now ≡ log ++ option_to_list c → IsGrown log now
by_change log now None some is = subst (IsGrown log) (sym (is ∙ append-nil log)) (grown_none log)
by_change log now (Some e) some is = subst (IsGrown log) (sym is) (grown_one log e some)

-- a request makes a history go on with one change, or with none
pub grown_by : (log now : List Happened) (caller : List ℕ) (asked : Asked) (answer : Answered) → 0 < length log → IsStep log caller asked answer now → IsGrown log now
grown_by log now caller asked answer some (steps is to room) = by_change log now (step (after log) caller asked).change some to
grown_by log now caller asked answer some (wants_memory is same) = subst (IsGrown log) (sym same) (grown_none log)
grown_by log now caller asked answer some (is_not_kept is same made room) = subst (IsGrown log) (sym same) (grown_none log)
