-- No decisions at all are accepted: what is in names only what is in, and the curated layer obeys.
use Rattle.std.proofs.Common.{◌≡◌, ℕ, List, [], ◌∷◌, None, arith}
use Rattle.std.specs.Option.{option_map, option_or}
use Rattle.layer_model.specs.Annotations.{Annotations}
use Rattle.layer_model.specs.Layers.{IsLayer}
use Rattle.layer_rules.specs.WellFormed.{Obeys, least_flaw}
use Rattle.content_keys.specs.Nodes.{IsIn}
use Rattle.unanimous_merge.specs.Readings.{readings}
use Rattle.unanimous_merge.proofs.ListLemmas.{all_head, all_tail}
use Rattle.curator_decisions.specs.declared.decision_fault.DecisionFault.TheVariants.{Broken}
use Rattle.curator_decisions.specs.Curated.{curated}
use Rattle.curator_decisions.specs.DecisionFaults.{first_broken, needed}
use Rattle.curator_decisions.specs.Undecided.{UndecidedLayersAreAccepted}
use Rattle.curator_decisions.proofs.BreaksThree.{Coheres, Unflawed, all_in}
use Rattle.curator_decisions.proofs.UndecidedMissing.{nothing_missing}
use Rattle.curator_decisions.proofs.UndecidedObeys.{undecided_obey}
use Rattle.curator_decisions.proofs.CuratedNames.{IsWhole}

pub undecided_accepted : Coheres → Unflawed → UndecidedLayersAreAccepted
undecided_accepted cohere unflawed conf characters [] some layers_ obey = absurd (omega arith)
undecided_accepted cohere unflawed conf characters (row ∷ rows) some layers_ obey =
    let is : IsLayer row.1 = all_head (λ (r : List ℕ × Annotations). IsLayer r.1) row rows layers_ in
    let own : Obeys conf characters row.1 = all_head (λ (r : List ℕ × Annotations). Obeys conf characters r.1) row rows obey in
    let others : (r : List ℕ × Annotations) → IsIn r rows → IsWhole r = λ r k.
    let l : IsLayer r.1 = all_in (λ (z : List ℕ × Annotations). IsLayer z.1) rows (all_tail (λ (z : List ℕ × Annotations). IsLayer z.1) row rows layers_) r k in
    let o : Obeys conf characters r.1 = all_in (λ (z : List ℕ × Annotations). Obeys conf characters z.1) rows (all_tail (λ (z : List ℕ × Annotations). Obeys conf characters z.1) row rows obey) r k in
    (l, cohere conf characters r.1 l o.well_formed) in
    let made : Obeys conf characters (curated (readings (row ∷ rows)) []) = undecided_obey cohere conf characters (row ∷ rows) some layers_ obey in
    let flaw : least_flaw conf characters (curated (readings (row ∷ rows)) []) ≡ None = unflawed conf characters (curated (readings (row ∷ rows)) []) made.well_formed in
    let broken : first_broken conf characters (curated (readings (row ∷ rows)) []) ≡ None = λ i. option_or (option_map (λ f. f.rule) (flaw i)) (made.enough i) in
    λ i. option_or (needed (nothing_missing row.1 rows is (cohere conf characters row.1 is own.well_formed) others i)) (option_map Broken (broken i))
