-- A project that was opened has no layer out.
use Rattle.std.proofs.Common.{◌≡◌, ℕ, ◌||◌, Bool, true, false, List, [], ◌∷◌, ◌++◌, map, Option, None, is_some, refl, sym, ◌∙◌, ap, subst, if◌then◌else◌}
use Rattle.std.specs.List.{list_any}
use Rattle.project_machine.specs.ProjectState.{Row, Document, is_some_out}
use Rattle.project_machine.specs.Requests.{Happened, AllFreed}
use Rattle.project_machine.specs.History.{after, freed, under_hold}
use Rattle.project_machine.proofs.HistoryLemmas.{after_more}
use Rattle.program_inputs.specs.ProjectFiles.ProjectFiles.{OpensAs}

free_rows : (rows : List Row) → list_any (λ (r : Row). is_some r.hold) (map (under_hold None) rows) ≡ false
free_rows [] = refl
free_rows (r ∷ rows) = free_rows rows

free_documents : (ds : List Document) → list_any (λ (d : Document). list_any (λ (r : Row). is_some r.hold) d.rows) (map freed ds) ≡ false
free_documents [] = refl
free_documents (d ∷ ds) = ap (λ b. b || list_any (λ (d : Document). list_any (λ (r : Row). is_some r.hold) d.rows) (map freed ds)) (free_rows d.rows) ∙ free_documents ds

none_out_where : (log : List Happened) (out : Bool) → is_some_out (after log) ≡ out → is_some_out (after (if out then log ++ AllFreed ∷ [] else log)) ≡ false
none_out_where log true is = ap is_some_out (after_more log AllFreed) ∙ free_documents (after log).documents
none_out_where log false is = is

-- no layer is out in a project that was opened
pub none_out : (file : Option (List ℕ)) (log : List Happened) → OpensAs file log → is_some_out (after log) ≡ false
none_out file log opens = subst (λ some. is_some_out (after some) ≡ false) (sym opens.history.freed) (none_out_where opens.history.log (is_some_out (after opens.history.log)) refl)
