-- What is asked to read something is answered by it or refused, and the history stays.
use Rattle.std.proofs.Common.{◌≡◌, ◌⊎◌, ℕ, List, [], ◌++◌, Option, Some, None, refl, sym, ◌∙◌, ap, subst, inl, inr}
use Rattle.std.specs.Option.{option_to_list}
use Rattle.std.proofs.lemmas.List.{append-nil}
use Rattle.project_machine.specs.declared.book_refusal.BookRefusal.{BookRefusal}
use Rattle.project_machine.specs.declared.book_refusal.BookRefusal.TheVariants as no
use Rattle.project_machine.specs.ProjectState.{ProjectState}
use Rattle.project_machine.specs.Requests.{Answered, Asked, Happened, Refused}
use Rattle.project_machine.specs.Machine.{change, of_text, refusal, reply, step, unless}
use Rattle.project_machine.specs.History.{after}
use Rattle.project_machine.specs.Asking.{IsStep, steps, wants_memory, is_not_kept, step_at}
use Rattle.demo_project.specs.Reading.{IsRead, IsRefusal}

-- where nothing is to happen nothing does, and the answer is that of what is granted or a refusal
record Reads (s : ProjectState) (asked : Asked) (o : Option BookRefusal) (answer : Answered) (happened : Option Happened) : Type 0 where
  pub told : ((unless s asked o answer happened).answer ≡ answer) ⊎ IsRefusal (unless s asked o answer happened).answer
  pub stays : (unless s asked o answer happened).change ≡ None

unless_reads : (s : ProjectState) (asked : Asked) (o : Option BookRefusal) (answer : Answered) (happened : Option Happened) → happened ≡ None → Reads s asked o answer happened
unless_reads s asked (Some r) answer happened e = record { told = inr (r, of_text s asked r, refl); stays = refl }
unless_reads s asked None answer None e = record { told = inl refl; stays = refl }
unless_reads s asked None answer (Some h) e = cc

-- one request that makes nothing happen
pub step_reads : (log : List Happened) (caller : List ℕ) (asked : Asked) (answer : Answered) (now : List Happened)
    → change (after log) caller asked ≡ None → IsStep log caller asked answer now → IsRead log caller asked answer now
step_reads log caller asked answer now none (steps is then room) =
    let s : ProjectState = after log in
    let reads : Reads s asked (refusal s caller asked) (reply s caller asked) (change s caller asked) = unless_reads s asked (refusal s caller asked) (reply s caller asked) (change s caller asked) none in
    record {
      told = elim reads.told [ inl granted ↦ inl (is ∙ granted) | inr refused ↦ inr (refused.0, refused.1, is ∙ refused.2) ];
      same = then ∙ ap (λ c. log ++ option_to_list c) reads.stays ∙ append-nil log;
    }
step_reads log caller asked answer now none (wants_memory is same) = record { told = inr (no.Memory, [], is); same = same }
step_reads log caller asked answer now none (is_not_kept is same some room) = record { told = inr (no.Keeper, [], is); same = same }
