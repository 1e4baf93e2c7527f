-- A history that was opened is opened again as itself, and its entries are those that were there, alone or with a freeing.
use Rattle.std.proofs.Common.{◌≡◌, ◌⊎◌, ℕ, ◌||◌, Bool, true, false, List, [], ◌∷◌, ◌++◌, map, Option, Some, None, is_some, option_map, IfSome, refl, sym, ◌∙◌, ap, subst, inl, inr, if◌then◌else◌}
use Rattle.std.proofs.lemmas.List.{append_assoc, append-nil}
use Rattle.std.specs.List.{list_any}
use Rattle.entry_bytes.specs.Entries.{entry_bytes}
use Rattle.project_machine.specs.ProjectState.{Row, Document, ProjectState, is_some_out}
use Rattle.project_machine.specs.Requests.{Asked, Happened, AllFreed}
use Rattle.project_machine.specs.Entries.{entries_of}
use Rattle.project_machine.specs.History.{after, after_places, effect, encoded, encoded_from, freed, numbered_from, place_behind, under_hold, unfounded}
use Rattle.project_machine.specs.Legal.{IsLegal, legal_freeing, legal_step}
use Rattle.project_machine.specs.Machine.{step}
use Rattle.project_machine.specs.RequestValues.{IsAsked}
use Rattle.project_machine.specs.Asking.{IsNext, entry_behind, own_entry}
use Rattle.project_machine.specs.Opening.{IsOpened, freeing_bytes, with_freeing}
use Rattle.project_machine.proofs.HistoryLemmas.{after_more}

free_rows : (rows : List Row) → list_any (λ (r : Row). is_some r.hold) (map (under_hold None) rows) ≡ false
free_rows [] = refl
free_rows (r ∷ rows) = free_rows rows

free_documents : (ds : List Document) → list_any (λ (d : Document). list_any (λ (r : Row). is_some r.hold) d.rows) (map freed ds) ≡ false
free_documents [] = refl
free_documents (d ∷ ds) = ap (λ b. b || list_any (λ (d : Document). list_any (λ (r : Row). is_some r.hold) d.rows) (map freed ds)) (free_rows d.rows) ∙ free_documents ds

-- behind a freeing no layer is out
none_out : (log : List Happened) → is_some_out (after (log ++ AllFreed ∷ [])) ≡ false
none_out log = ap is_some_out (after_more log AllFreed) ∙ free_documents (after log).documents

abbrev freed_where : Bool → List Happened → List Happened
freed_where out log = if out then log ++ AllFreed ∷ [] else log

freed_legal : (log : List Happened) (out : Bool) → is_some_out (after log) ≡ out → IsLegal log → IsLegal (freed_where out log)
freed_legal log true is l = legal_freeing log l is
freed_legal log false is l = l

freed_once : (log : List Happened) (out : Bool) → is_some_out (after log) ≡ out → with_freeing (freed_where out log) ≡ freed_where out log
freed_once log true is = ap (λ b. freed_where b (log ++ AllFreed ∷ [])) (none_out log)
freed_once log false is = ap (λ b. freed_where b log) is

pub opened_again : (entries : List (List ℕ)) (opened : List Happened) → IsOpened entries opened → IsOpened (encoded opened) opened
opened_again entries opened is = record {
  log = opened;
  legal = subst IsLegal (sym is.freed) (freed_legal is.log (is_some_out (after is.log)) refl is.legal);
  told = refl;
  freed = subst (λ some. some ≡ with_freeing some) (sym is.freed) (sym (freed_once is.log (is_some_out (after is.log)) refl));
}

encoded_more_from : (s : ProjectState) (before : ℕ) (log : List Happened) (e : Happened)
    → encoded_from s (numbered_from before (log ++ e ∷ [])) ≡ encoded_from s (numbered_from before log) ++ map entry_bytes (entries_of (after_places s (numbered_from before log)) e)
encoded_more_from s before [] e = append-nil (map entry_bytes (entries_of s e))
encoded_more_from s before (x ∷ xs) e =
    ap (λ rest. map entry_bytes (entries_of s x) ++ rest) (encoded_more_from (effect (place_behind x before) x s) (place_behind x before) xs e)
    ∙ sym (append_assoc (map entry_bytes (entries_of s x)) _ _)

-- one more change is its entries more
pub encoded_more : (log : List Happened) (e : Happened) → encoded (log ++ e ∷ []) ≡ encoded log ++ map entry_bytes (entries_of (after log) e)
encoded_more log e = encoded_more_from unfounded 0 log e

left_where : (log : List Happened) (out : Bool) → (encoded (freed_where out log) ≡ encoded log) ⊎ (encoded (freed_where out log) ≡ encoded log ++ freeing_bytes ∷ [])
left_where log true = inr (encoded_more log AllFreed)
left_where log false = inl refl

pub opened_left : (entries : List (List ℕ)) (opened : List Happened) → IsOpened entries opened → (encoded opened ≡ entries) ⊎ (encoded opened ≡ entries ++ freeing_bytes ∷ [])
opened_left entries opened is =
    subst (λ told. (encoded opened ≡ told) ⊎ (encoded opened ≡ told ++ freeing_bytes ∷ [])) (sym is.told)
    (subst (λ some. (encoded some ≡ encoded is.log) ⊎ (encoded some ≡ encoded is.log ++ freeing_bytes ∷ [])) (sym is.freed) (left_where is.log (is_some_out (after is.log))))

-- ---- what a book hands to its keeper

next_by_change : (log : List Happened) (caller : List ℕ) (asked : Asked) (o : Option Happened) → (step (after log) caller asked).change ≡ o → IsLegal log → IsAsked asked → IfSome (option_map (entry_behind log) o) (IsNext log)
next_by_change log caller asked None is l typed = tt
next_by_change log caller asked (Some e) is l typed = record { change = e; legal = legal_step log caller asked e l typed is; entry = refl }

-- the entry of a request's change is one that could be the next
pub own_next : (log : List Happened) (caller : List ℕ) (asked : Asked) → IsLegal log → IsAsked asked → IfSome (own_entry log caller asked) (IsNext log)
own_next log caller asked l typed = next_by_change log caller asked (step (after log) caller asked).change refl l typed
