-- A snapshot of which the pieces are read.
use Rattle.std.specs.Prelude.{◌≡◌, ℕ, ◌≤◌, Bool, List, [], ◌∷◌, ◌++◌, map}
use Rattle.std.specs.List.{list_all}
use Rattle.std.proofs.Common.{refl}
use Rattle.std.specs.Coded.{Coded, code_by, coded×, coded_ℕ, coded_list}
use Rattle.std.specs.Cmp.Lexicographic.{slice_cmp}
use Rattle.std.specs.List.Sorted.{IsStrictlySortedBy}
use Rattle.std.specs.Ordering.{nat_cmp}
use Rattle.layer_model.specs.Annotations.{Annotations, annotations_code}
use Rattle.project_machine.specs.People.{comes_before}
use Rattle.unanimous_merge.specs.Rows.{AreCoherent}

-- a snapshot so far: the number of its document, how many layers it is said to hold, and those that were read, by their holders
pub record HeldSoFar : Type 0 where
  pub doc : ℕ
  pub layers : ℕ
  pub held : List (List ℕ × Annotations)

-- it as the tuple of its fields (private calls only)
abbrev pub held_code : Coded HeldSoFar
held_code =
    code_by (ℕ × (ℕ × List (List ℕ × Annotations))) (coded× coded_ℕ (coded× coded_ℕ (coded_list (coded× (coded_list coded_ℕ) annotations_code))))
    (λ h. (h.doc, (h.layers, h.held))) (λ p. record { doc = p.0; layers = p.1.0; held = p.1.1 }) (λ _. refl)

-- 2 to 16 layers are said, the names of the holders strictly ascend, and each layer keeps itself whole (private calls only)
pub record IsHeldSoFar (h : HeldSoFar) : Type 0 where
  pub two : 2 ≤ h.layers
  pub few : h.layers ≤ 16
  pub ascending : IsStrictlySortedBy (slice_cmp nat_cmp) (map (λ row. row.0) h.held)
  pub whole : AreCoherent h.held

-- a holder follows those before
abbrev pub follows : List (List ℕ × Annotations) → List ℕ → Bool
follows held who = list_all (λ row. comes_before row.0 who) held

-- a snapshot with one more layer
abbrev pub with_held : HeldSoFar → List ℕ → Annotations → HeldSoFar
with_held h who layer = record { doc = h.doc; layers = h.layers; held = h.held ++ (who, layer) ∷ [] }
