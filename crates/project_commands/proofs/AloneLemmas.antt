-- A visitor that owns its project tells at the end the place at which it told to have begun.
use Rattle.std.proofs.Common.{◌≡◌, ℕ, List, [], ◌∷◌, Option, Result, sym, ap, subst, ◌∙◌}
use Rattle.project_machine.specs.Requests.{Happened}
use Rattle.project_machine.specs.History.{last}
use Rattle.project_machine.specs.Asking.{Visiting}
use Rattle.project_book.specs.Keeping.{BookValue}
use Rattle.project_book.specs.Visits.{visiting_alone}
use Rattle.annotation_http.specs.Exchanges.Connections.{Bare, Connection}
use Rattle.program_inputs.specs.declared.trouble.Trouble.{Trouble}
use Rattle.project_commands.specs.Commands.Serving.{Serves}
use Rattle.project_commands.specs.Sessions.{ServesBook}

only_place : {began place : ℕ} → began ∷ [] ≡ place ∷ [] → began ≡ place
only_place {began} {place} e = cc

-- what was served by such a visitor
pub serves_alone : (faultless : Type 0) (start : Connection) (old : Visiting) (log log_now : List Happened) (began faults faults_now room room_now : ℕ) (left now before written : Option (List ℕ)) (done : Result (Unit {0}) Trouble)
    → began ∷ [] ≡ old.badge → old ≡ visiting_alone log (last log) faults room
    → Serves faultless start old (visiting_alone log_now began faults_now room_now) left now before written done
    → Serves faultless start (visiting_alone log (last log) faults room) (visiting_alone log_now (last log) faults_now room_now) left now before written done
serves_alone faultless start old log log_now began faults faults_now room room_now left now before written done badge is served =
    subst (λ (v : Visiting). Serves faultless start v (visiting_alone log_now (last log) faults_now room_now) left now before written done) is
    (subst (λ (place : ℕ). Serves faultless start old (visiting_alone log_now place faults_now room_now) left now before written done)
    (only_place (badge ∙ ap (λ (v : Visiting). v.badge) is)) served)

-- a project that was given to such a visitor, and given up by it
pub serves_book : {K : Type 0} (faults : K → ℕ) (faultless : K → Type 0) (kept project now back : BookValue K) (began room_now : ℕ) (old : Visiting) (left left_now before written : Option (List ℕ)) (done : Result (Unit {0}) Trouble)
    → kept ≡ project → old ≡ visiting_alone project.log (last project.log) (faults project.keeper) 18446744073709551615 → began ∷ [] ≡ old.badge → back ≡ now
    → Serves (faultless kept.keeper) Bare old (visiting_alone now.log began (faults now.keeper) room_now) left left_now before written done
    → ServesBook (faultless project.keeper) project.log left left_now before written done back.log
serves_book {K} faults faultless kept project now back began room_now old left left_now before written done kept_is is badge back_is served =
    let start : Visiting = visiting_alone project.log (last project.log) (faults project.keeper) 18446744073709551615 in
    let alone : Serves (faultless kept.keeper) Bare start (visiting_alone now.log (last project.log) (faults now.keeper) room_now) left left_now before written done =
    serves_alone (faultless kept.keeper) Bare old project.log now.log began (faults project.keeper) (faults now.keeper) 18446744073709551615 room_now left left_now before written done badge is served in
    let of_project : Serves (faultless project.keeper) Bare start (visiting_alone now.log (last project.log) (faults now.keeper) room_now) left left_now before written done =
    subst (λ (b : BookValue K). Serves (faultless b.keeper) Bare start (visiting_alone now.log (last project.log) (faults now.keeper) room_now) left left_now before written done) kept_is alone in
    record {
      faults = faults project.keeper;
      faults_now = faults now.keeper;
      room_now = room_now;
      served = subst (λ (b : BookValue K). Serves (faultless project.keeper) Bare start (visiting_alone b.log (last project.log) (faults now.keeper) room_now) left left_now before written done) (sym back_is) of_project;
    }
