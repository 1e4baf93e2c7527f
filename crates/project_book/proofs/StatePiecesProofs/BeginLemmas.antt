-- How a history begins.
use Rattle.std.proofs.Common.{◌≡◌, ℕ, List, [], ◌∷◌, ◌++◌, refl, ap}
use Rattle.entry_bytes.specs.declared.person.Person.{Person}
use Rattle.conf_model.specs.Configurations.{Configuration}
use Rattle.project_machine.specs.Legal.{IsFounding, IsLegal, IsSound, legal_founding, legal_freeing, legal_restored, legal_step}
use Rattle.project_machine.specs.ProjectState.{ProjectState}
use Rattle.project_machine.specs.Requests.{Happened, AllFreed, Founded, Restored}

-- a history begins with a founding, or with a state that can be restored
pub data Begins (log : List Happened) : Type 0 where
  with_founding : (conf : Configuration) (level : ℕ) (people : List Person) (rest : List Happened) → IsFounding conf level people → log ≡ Founded conf level people ∷ rest → Begins log
  with_state : (state : ProjectState) (rest : List Happened) → IsSound state → log ≡ Restored state.place state ∷ rest → Begins log

begins_more : (log : List Happened) (e : Happened) → Begins log → Begins (log ++ e ∷ [])
begins_more log e (with_founding conf level people rest is same) = with_founding conf level people (rest ++ e ∷ []) is (ap (λ l. l ++ e ∷ []) same)
begins_more log e (with_state state rest sound same) = with_state state (rest ++ e ∷ []) sound (ap (λ l. l ++ e ∷ []) same)

pub begins : (log : List Happened) → IsLegal log → Begins log
begins _ (legal_founding conf level people is) = with_founding conf level people [] is refl
begins _ (legal_restored state sound) = with_state state [] sound refl
begins _ (legal_step log caller asked e l typed is) = begins_more log e (begins log l)
begins _ (legal_freeing log l is) = begins_more log AllFreed (begins log l)
