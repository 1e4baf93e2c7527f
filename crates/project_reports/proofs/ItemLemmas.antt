-- Items that all hold, by their bits.
use Rattle.std.proofs.Common.{◌≡◌, ℕ, ◌-◌, ◌^◌, ◌==◌, ◌&&◌, not, suc, List, [], ◌∷◌, map, length, count_by, is_none, refl, sym, ◌∙◌, ap}
use Rattle.layer_model.specs.Annotations.{Annotations}
use Rattle.unanimous_merge.specs.declared.item.Item.{Item}
use Rattle.unanimous_merge.specs.Items.{Held, item_of, items, leaders, name_of, stands}
use Rattle.unanimous_merge.specs.Readings.{Reading, contents, reading_of, readings}
use Rattle.unanimous_merge.specs.Unanimous.{in_each}
use Rattle.curator_decisions.specs.Decisions.{verdict_on}
use Rattle.project_machine.specs.ProjectState.{Snapshot}
use Rattle.project_machine.specs.SnapshotsTable.{is_unanimous, is_undecided}
use Rattle.project_reports.proofs.BitLemmas.{bits_of_all_set}
use Rattle.project_reports.proofs.CountLemmas.{count_made}

-- an item has the bits of all holders exactly where its content stands in each layer
held_by_all : (layers : List Reading) (all : ℕ) (held : Held) → all ≡ 2 ^ length layers - 1 → ((item_of layers held).holders == all) ≡ in_each layers held.content
held_by_all layers all held is = bits_of_all_set contents (stands held.content) layers all is

mapped : {X Y : Type 0} (f : X → Y) (xs : List X) → length (map f xs) ≡ length xs
mapped f [] = refl
mapped f (x ∷ xs) = ap suc (mapped f xs)

read : (rows : List (List ℕ × Annotations)) → length (readings rows) ≡ length rows
read rows = mapped (λ (row : List ℕ × Annotations). reading_of row.1) rows

-- the items that all hold are the unanimous ones
pub unanimous_counted : (shot : Snapshot) (all count : ℕ) → count ≡ length shot.holders → all ≡ 2 ^ count - 1 → count_by (λ (item : Item). item.holders == all) (items shot.holders) ≡ count_by (is_unanimous (readings shot.holders)) (leaders (readings shot.holders))
unanimous_counted shot all count many is =
    count_made (λ (item : Item). item.holders == all) (is_unanimous (readings shot.holders)) (item_of (readings shot.holders))
    (λ held. held_by_all (readings shot.holders) all held (is ∙ ap (λ k. 2 ^ k - 1) (many ∙ sym (read shot.holders)))) (leaders (readings shot.holders))

-- the items that not all hold and on which there is no verdict are the undecided ones
pub undecided_counted : (shot : Snapshot) (all count : ℕ) → count ≡ length shot.holders → all ≡ 2 ^ count - 1
    → count_by (λ (item : Item). not (item.holders == all) && is_none (verdict_on item.id shot.verdicts)) (items shot.holders) ≡ count_by (is_undecided (readings shot.holders) shot.verdicts) (leaders (readings shot.holders))
undecided_counted shot all count many is =
    count_made (λ (item : Item). not (item.holders == all) && is_none (verdict_on item.id shot.verdicts)) (is_undecided (readings shot.holders) shot.verdicts) (item_of (readings shot.holders))
    (λ held. ap (λ b. not b && is_none (verdict_on (name_of held) shot.verdicts)) (held_by_all (readings shot.holders) all held (is ∙ ap (λ k. 2 ^ k - 1) (many ∙ sym (read shot.holders)))))
    (leaders (readings shot.holders))
