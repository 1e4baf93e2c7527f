-- The line of each item is there.
use Rattle.std.proofs.Common.{◌≡◌, ℕ, suc, ◌-◌, ◌<◌, ◌≤◌, inl, inr, List, [], ◌∷◌, map, length, get_or, refl, sym, subst, ap, ◌∙◌, arith, All}
use Rattle.mark_base.specs.declared.ann_id.AnnId.{AnnId}
use Rattle.conf_model.specs.Configurations.{Configuration}
use Rattle.layer_model.specs.Annotations.{Annotations}
use Rattle.layer_rules.specs.CarriedByRule.{id_text}
use Rattle.layer_rules.specs.WellFormed.{IsWellFormed}
use Rattle.ann_writer.specs.AnnOf.{ann_of}
use Rattle.ann_writer.specs.Writable.{IsOfProgram}
use Rattle.content_keys.specs.Nodes.{IsIn}
use Rattle.content_keys.specs.LayerContents.{ids_of}
use Rattle.content_keys.proofs.BagLemmas.{map-IsIn, IsIn-either}
use Rattle.content_keys.proofs.IdLemmas.{ids_have}
use Rattle.unanimous_merge.specs.declared.item.Item.{Item}
use Rattle.unanimous_merge.specs.Items.{Held, held_by, held_from, item_of, items, leaders, name_of}
use Rattle.unanimous_merge.specs.Readings.{content_under, contents, reading_of, readings}
use Rattle.unanimous_merge.proofs.ListLemmas.{all_cons, all_head, all_map, all_none, all_tail}
use Rattle.curator_decisions.proofs.CuratedItems.{in_firsts}
use Rattle.items_report.specs.ItemRows.{behind_id, lines_of}
use Rattle.items_report.specs.ItemsTable.{CanBeListed, files_of, line_of_item}
use Rattle.items_report.proofs.ItemLines.{has_content, line_there}

abbrev Rows : Type 0
Rows = List (List ℕ × Annotations)

-- the line of an annotation in the file of its holder, where the first holder has this place
abbrev line_from : Configuration → List ℕ → Rows → ℕ → Held → List ℕ
line_from conf text rows first held = behind_id (id_text held.id) (get_or (map lines_of (files_of conf text rows)) (held.holder - first) [])

here_is : (conf : Configuration) (text : List ℕ) (row : List ℕ × Annotations) (rows : Rows) (n : ℕ) (held : Held) (id : AnnId) → held.holder ≡ n → held.id ≡ id
    → 0 < length (behind_id (id_text id) (lines_of (ann_of conf text row.1))) → 0 < length (line_from conf text (row ∷ rows) n held)
here_is conf text row rows n held id holder same there =
    let none : held.holder - n ≡ 0 = omega arith in
    subst (λ k. 0 < length (behind_id (id_text held.id) (get_or (map lines_of (files_of conf text (row ∷ rows))) k []))) (sym none)
    (subst (λ i. 0 < length (behind_id (id_text i) (lines_of (ann_of conf text row.1)))) (sym same) there)

later_is : (conf : Configuration) (text : List ℕ) (row : List ℕ × Annotations) (rows : Rows) (n : ℕ) (held : Held) → suc n ≤ held.holder
    → 0 < length (line_from conf text rows (suc n) held) → 0 < length (line_from conf text (row ∷ rows) n held)
later_is conf text row rows n held behind there =
    let step : held.holder - n ≡ suc (held.holder - suc n) = omega arith in
    subst (λ k. 0 < length (behind_id (id_text held.id) (get_or (map lines_of (files_of conf text (row ∷ rows))) k []))) (sym step) there

-- ---- each annotation of the holders has its line

held_there : (conf : Configuration) (text : List ℕ) (rows : Rows) (n : ℕ) (held : Held) → All (λ (row : List ℕ × Annotations). IsWellFormed conf (length text) row.1) rows → All (λ (row : List ℕ × Annotations). IsOfProgram conf text row.1) rows
    → IsIn held (held_from n (map contents (readings rows))) → (n ≤ held.holder) × (0 < length (line_from conf text rows n held))
held_there conf text [] n held well program among = absurd among
held_there conf text (row ∷ rows) n held well program among =
    elim (IsIn-either held (held_by n (contents (reading_of row.1))) (held_from (suc n) (map contents (readings rows))) among) as (λ _. (n ≤ held.holder) × (0 < length (line_from conf text (row ∷ rows) n held))) [
      | inl own ↦
          let entry : (e : AnnId × ℕ) × (IsIn e (contents (reading_of row.1)) × (held ≡ record { holder = n; id = e.0; content = e.1 })) = map-IsIn (λ e. record { holder = n; id = e.0; content = e.1 }) held (contents (reading_of row.1)) own in
          let id : (i : AnnId) × (IsIn i (ids_of row.1) × (entry.0 ≡ (i, content_under (reading_of row.1) i))) = map-IsIn (λ i. (i, content_under (reading_of row.1) i)) entry.0 (ids_of row.1) entry.1.0 in
          let holder : held.holder ≡ n = ap (λ (h : Held). h.holder) entry.1.1 in
          let same : held.id ≡ id.0 = ap (λ (h : Held). h.id) entry.1.1 ∙ ap (λ (e : AnnId × ℕ). e.0) id.1.1 in
          let kept = all_head (λ (r : List ℕ × Annotations). IsOfProgram conf text r.1) row rows program in (
            omega arith,
            here_is conf text row rows n held id.0 holder same
                (line_there conf text row.1 id.0 kept (all_head (λ (r : List ℕ × Annotations). IsWellFormed conf (length text) r.1) row rows well) (has_content row.1 id.0 (ids_have row.1 kept.kept id.0 id.1.0))),
          )
      | inr others ↦
          let rest = held_there conf text rows (suc n) held (all_tail (λ (r : List ℕ × Annotations). IsWellFormed conf (length text) r.1) row rows well) (all_tail (λ (r : List ℕ × Annotations). IsOfProgram conf text r.1) row rows program) others in
          let behind : suc n ≤ held.holder = rest.0 in
          (omega arith, later_is conf text row rows n held behind rest.1)
    ]

all_in : {X : Type 0} (P : X → Type 0) (xs : List X) → ((x : X) → IsIn x xs → P x) → All P xs
all_in P [] f = all_none P
all_in P (x ∷ xs) f = all_cons P x xs (f x (inl refl)) (all_in P xs (λ y h. f y (inr h)))

pub lines_there : (conf : Configuration) (text : List ℕ) (holders : Rows) → CanBeListed conf text holders → All (λ (held : List ℕ × Annotations). IsOfProgram conf text held.1) holders
    → All (λ (item : Item). 0 < length (line_of_item conf text holders item.id)) (items holders)
lines_there conf text holders listed program =
    all_map (λ (item : Item). 0 < length (line_of_item conf text holders item.id)) (item_of (readings holders)) (leaders (readings holders))
    (all_in (λ (held : Held). 0 < length (line_of_item conf text holders (name_of held))) (leaders (readings holders))
    (λ held among.
    let whole : held.holder - 0 ≡ held.holder = omega arith in
    subst (λ k. 0 < length (behind_id (id_text held.id) (get_or (map lines_of (files_of conf text holders)) k []))) whole
    (held_there conf text holders 0 held listed.layers program (in_firsts (held_from 0 (map contents (readings holders))) held among)).1))
