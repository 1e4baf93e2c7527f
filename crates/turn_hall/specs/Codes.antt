-- How what a pass knows is told apart by a proof (private calls only).
use Rattle.std.specs.Prelude.{ℕ, Bool, List, Option}
use Rattle.std.proofs.Common.{refl}
use Rattle.std.specs.Coded.{Coded, code_by, coded×, coded_ℕ, coded_bool, coded_list, coded_option}
use Rattle.atomic_table.specs.Seated.{TableId, table_id_coded}
use Rattle.project_machine.specs.Requests.{Happened}
use Rattle.project_book.specs.Codes.{happened_code}
use Rattle.turn_hall.specs.Views.{View}
use Rattle.turn_hall.specs.Passes.{HallValue, PassValue}

-- the code of a history
abbrev pub log_code : Coded (List Happened)
log_code = coded_list happened_code

-- what a pass knows as the tuple of its fields
abbrev pub view_code : Coded View
view_code =
    code_by (List Happened × (List Happened × (List ℕ × (ℕ × (Bool × (ℕ × (ℕ × (Option ℕ × (Option (List Happened × ℕ) × (ℕ × (ℕ × Bool)))))))))))
    (coded× log_code (coded× log_code (coded× (coded_list coded_ℕ) (coded× coded_ℕ (coded× coded_bool (coded× coded_ℕ (coded× coded_ℕ (coded× (coded_option coded_ℕ) (coded× (coded_option (coded× log_code coded_ℕ)) (coded× coded_ℕ (coded× coded_ℕ coded_bool)))))))))))
    (λ v. (v.seen, (v.shorter, (v.mine, (v.faults, (v.spent, (v.room, (v.drawn, (v.ticket, (v.taken, (v.splits, (v.stands_for, v.first))))))))))))
    (λ p. record { seen = p.0; shorter = p.1.0; mine = p.1.1.0; faults = p.1.1.1.0; spent = p.1.1.1.1.0; room = p.1.1.1.1.1.0; drawn = p.1.1.1.1.1.1.0; ticket = p.1.1.1.1.1.1.1.0; taken = p.1.1.1.1.1.1.1.1.0; splits = p.1.1.1.1.1.1.1.1.1.0; stands_for = p.1.1.1.1.1.1.1.1.1.1.0; first = p.1.1.1.1.1.1.1.1.1.1.1 })
    (λ _. refl)

-- a hall as the pair of its fields
abbrev pub hall_code : Coded HallValue
hall_code = code_by (TableId × List Happened) (coded× table_id_coded log_code) (λ h. (h.id, h.opening)) (λ p. record { id = p.0; opening = p.1 }) (λ _. refl)

-- a pass as the pair of its fields
abbrev pub pass_code : Coded PassValue
pass_code = code_by (TableId × View) (coded× table_id_coded view_code) (λ p. (p.hall, p.knows)) (λ p. record { hall = p.0; knows = p.1 }) (λ _. refl)
