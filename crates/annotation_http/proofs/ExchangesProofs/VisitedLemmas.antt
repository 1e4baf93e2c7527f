-- What holds of every answer of a step holds of what a visitor is answered.
use Rattle.std.proofs.Common.{◌≡◌, ℕ, ◌<◌, List, [], ◌∷◌, ◌++◌, length, take, refl, sym, ◌∙◌, subst, arith, length-append}
use Rattle.std.specs.Option.{option_to_list}
use Rattle.std.proofs.lemmas.List.{take-append-le}
use Rattle.project_machine.specs.declared.book_refusal.BookRefusal.TheVariants as no
use Rattle.project_machine.specs.Requests.{Asked, Answered, Happened, Refused}
use Rattle.project_machine.specs.Machine.{step}
use Rattle.project_machine.specs.History.{after}
use Rattle.project_machine.specs.Legal.{IsLegal}
use Rattle.project_machine.specs.Asking.{IsStep, steps, wants_memory, is_not_kept, Visited, Visiting, step_at}
use Rattle.project_machine.proofs.HistoryLemmas.{front_legal, legal_some}

take_length : (xs : List Happened) → take (length xs) xs ≡ xs
take_length [] = refl
take_length (x ∷ xs) = let e : take (length xs) xs ≡ xs = take_length xs in rw e refl

-- what others did before is a history
pub others_legal : (seen more : List Happened) → 0 < length seen → IsLegal (seen ++ more) → IsLegal seen
others_legal seen more some legal =
    subst IsLegal (take-append-le (length seen) seen more (omega arith) ∙ take_length seen) (front_legal (length seen) (seen ++ more) legal some)

by_step : (P : Answered → Type 0) (log : List Happened) (caller : List ℕ) (asked : Asked) (answered : Answered) (now : List Happened) → 0 < length log → IsLegal now
    → ((other : List Happened) → IsLegal other → P (step (after other) caller asked).answer) → P (Refused no.Memory []) → P (Refused no.Keeper [])
    → IsStep log caller asked answered now → P answered
by_step P log caller asked answered now some legal law memory keeper (steps is goes room) =
    subst P (sym is) (law log (others_legal log (option_to_list (step_at log caller asked).change) some (subst IsLegal goes legal)))
by_step P log caller asked answered now some legal law memory keeper (wants_memory is goes) = subst P (sym is) memory
by_step P log caller asked answered now some legal law memory keeper (is_not_kept is goes makes room) = subst P (sym is) keeper

-- a law on the answers of steps is one on those of a visitor
pub visited_answer : (P : Answered → Type 0) (old new : Visiting) (caller : List ℕ) (asked : Asked) (answered : Answered) → IsLegal old.seen → Visited old new caller asked answered
    → ((log : List Happened) → IsLegal log → P (step (after log) caller asked).answer) → P (Refused no.Memory []) → P (Refused no.Keeper []) → P answered
visited_answer P old new caller asked answered legal visited law memory keeper =
    by_step P (old.seen ++ visited.replied.others) caller asked answered new.seen (omega (arith, length-append old.seen visited.replied.others, legal_some old.seen legal)) (visited.legal legal) law memory keeper visited.replied.stepped
