-- Documents that are taken from the end of a list, and stand in another the other way round.
use Rattle.std.proofs.Common.{◌≡◌, List, [], ◌∷◌, ◌++◌, reverse, refl, sym, ◌∙◌, ap, append_assoc, append-nil}
use Rattle.std.proofs.lemmas.List.{reverse-append}
use Rattle.project_machine.specs.ProjectState.{Document}

pub stored_none : (all st : List Document) → st ≡ [] → all ++ reverse st ≡ all
stored_none all st none = ap (λ (x : List Document). all ++ reverse x) none ∙ append-nil all

pub stored_more : (rest new st pushed all : List Document) (d x : Document) → rest ≡ new ++ d ∷ [] → x ≡ d → pushed ≡ st ++ x ∷ [] → rest ++ reverse st ≡ all → new ++ reverse pushed ≡ all
stored_more rest new st pushed all d x popped same more so =
    ap (λ (p : List Document). new ++ reverse p) more
    ∙ (ap (λ (y : List Document). new ++ y) (reverse-append st (x ∷ []))
    ∙ (ap (λ (z : Document). new ++ z ∷ reverse st) same
    ∙ (sym (append_assoc new (d ∷ []) (reverse st)) ∙ (ap (λ (r : List Document). r ++ reverse st) (sym popped) ∙ so))))

pub stored_all : (rest st all : List Document) → rest ≡ [] → rest ++ reverse st ≡ all → reverse st ≡ all
stored_all rest st all none so = ap (λ (r : List Document). r ++ reverse st) (sym none) ∙ so
