use Rattle.std.proofs.Common.{◌≡◌, ◌<◌, ◌≤◌, ℕ, None, Option, List, [], All, length, get_or, map, sym, ap, ◌∙◌, subst, refl, arith}
use Rattle.std.specs.List.{filter_map, fold}
use Rattle.mark_base.specs.declared.ann_id.AnnId.{AnnId}
use Rattle.layer_model.specs.declared.class.Class.{Class}
use Rattle.layer_model.specs.declared.mark.Mark.{Mark}
use Rattle.layer_model.specs.Annotations.{Annotations, no_marks}
use Rattle.layer_model.specs.Classes.{joined}
use Rattle.layer_model.specs.Layers.{with_classes, with_mark}
use Rattle.content_keys.specs.declared.placed_layer.PlacedLayer.{PlacedLayer}
use Rattle.content_keys.specs.Founds.{first_at}
use Rattle.unanimous_merge.specs.Readings.{readings}
use Rattle.curator_decisions.specs.declared.numbering.NumberedEntry.{NumberedEntry}
use Rattle.curator_decisions.specs.Curated.{classes_taken, numbered, taken}
use Rattle.curator_decisions.specs.Placing.{AreNames, class_at, letter_of_entry, numbered_entries, placed_id, taken_at}
use Rattle.curator_decisions.proofs.CuratedLemmas.{classes_few, classes_same, classes_some, entries, entries_within, letters_fit, marks_are, names_are_layers, no_classes, places_fit, renames}
use Rattle.curator_decisions.proofs.building.curated_in.Goals as goal

pub ids_by_place-requires : goal.ids_by_place-requires
ids_by_place-requires c =
    let es = entries c.args.snapshot.now c.args.merged.now c.requires c.args.decisions.now in
    let nums : c.as_slice-2.result.now ≡ numbered_entries [] es = c.as_slice-2.ensures.value ∙ c.in_ok-items.ensures ∙ ap (numbered_entries []) (c.as_slice.ensures.value ∙ c.in_ok-entries.ensures) in
    let P : List NumberedEntry → Type 0 = λ xs. All (λ p. p.place < c.count.result) (map placed_id xs) in
    let Q : ℕ → Type 0 = λ n. All (λ p. p.place < n) (map placed_id (numbered_entries [] es)) in
    subst P (sym nums) (subst Q (sym c.count.ensures) (places_fit (length c.args.merged.now.table) [] es (entries_within c.args.snapshot.now c.args.merged.now c.requires c.args.decisions.now)))

pub taken_layer-requires : goal.taken_layer-requires
taken_layer-requires c =
    let es = entries c.args.snapshot.now c.args.merged.now c.requires c.args.decisions.now in
    let nums : c.as_slice-6.result.now ≡ numbered_entries [] es = c.as_slice-6.ensures.value ∙ c.in_ok-items.ensures ∙ ap (numbered_entries []) (c.as_slice.ensures.value ∙ c.in_ok-entries.ensures) in
    let P : List NumberedEntry → Type 0 = All (λ one. one.id.kind ≡ letter_of_entry one.entry) in
    subst P (sym nums) (letters_fit [] es)

pub index-requires : goal.index-requires
index-requires c =
    let P : List PlacedLayer × List (Option AnnId) → Type 0 = λ p. AreNames (λ at. get_or p.1 at None) p.0 c.in_ok-all.all.items in
    let names = subst P (λ i. (c.as_slice-3.ensures.value i, c.as_slice-4.ensures.value i)) c.in_ok-all.ensures in
    let long : length c.in_ok-all.all.items ≡ length c.args.snapshot.now = names_are_layers c.args.snapshot.now c.args.merged.now c.requires (λ at. get_or c.in_ok-ids.ids.items at None) c.in_ok-all.all.items names in
    let same : length c.as_slice-5.result.now ≡ length c.in_ok-all.all.items = ap length c.as_slice-5.ensures.value in
    omega (arith, long, same, c.as_slice-5.ensures.len, c.count-holders.ensures.kept.two)

pub join_classes-requires-clause-some : goal.join_classes-requires-clause-some
join_classes-requires-clause-some c =
    let P : List Class → Type 0 = All (λ class. 0 < length class.members) in
    subst P (sym (c.as_slice-7.ensures.value ∙ c.requires.classes)) (classes_some c.args.snapshot.now c.requires.layers)

pub join_classes-requires-clause-few : goal.join_classes-requires-clause-few
join_classes-requires-clause-few c =
    let P : List Class → Type 0 = λ xs. length xs ≤ 4294967295 in
    subst P (sym (c.as_slice-7.ensures.value ∙ c.requires.classes)) (classes_few c.args.snapshot.now c.requires.layers)

pub join_classes-requires-clause-none : goal.join_classes-requires-clause-none
join_classes-requires-clause-none c = ap (λ (l : Annotations). l.classes) c.in_ok-layer.ensures ∙ no_classes (filter_map (taken_at c.args.snapshot.now c.as_slice-5.result.now) c.as_slice-6.result.now) no_marks refl

pub returns : goal.returns
returns c =
    let snapshot = c.args.snapshot.now in
    let merged = c.args.merged.now in
    let decided = c.args.decisions.now in
    let es = entries snapshot merged c.requires decided in
    let all = c.in_ok-all.all.items in
    let items = numbered (readings snapshot) decided in
    let put : Annotations → AnnId × Mark → Annotations = λ layer entry. with_mark layer entry.0 entry.1 in
    let join : List Class → Class → List Class = λ classes class. joined class.kind class.members classes in
    let nums : c.in_ok-items.items.items ≡ numbered_entries [] es = c.in_ok-items.ensures ∙ ap (numbered_entries []) (c.as_slice.ensures.value ∙ c.in_ok-entries.ensures) in
    let found : (q : ℕ) → get_or c.in_ok-ids.ids.items q None ≡ first_at (map placed_id (numbered_entries [] es)) q = λ q. c.in_ok-ids.ensures q ∙ ap (λ n. first_at (map placed_id n) q) (c.as_slice-2.ensures.value ∙ nums) in
    let P : List PlacedLayer × List (Option AnnId) → Type 0 = λ p. AreNames (λ at. get_or p.1 at None) p.0 all in
    let names = subst P (λ i. (c.as_slice-3.ensures.value i, c.as_slice-4.ensures.value i)) c.in_ok-all.ensures in
    let some : 0 < length snapshot = omega (arith, c.count-holders.ensures.kept.two) in
    let marks : c.in_ok-layer.layer ≡ fold put no_marks (filter_map (taken (readings snapshot) items) items) =
    c.in_ok-layer.ensures ∙ (λ i. fold put no_marks (filter_map (taken_at snapshot (c.as_slice-5.ensures.value i)) ((c.as_slice-6.ensures.value ∙ nums) i))) ∙ ap (fold put no_marks) (marks_are snapshot merged c.requires decided c.in_ok-ids.ids.items found all names) in
    let classes : filter_map (class_at c.index.result.now) c.as_slice-7.result.now ≡ classes_taken (readings snapshot) items =
    classes_same items snapshot all (renames snapshot merged c.requires decided c.in_ok-ids.ids.items found all names) some c.index.result.now c.index.ensures c.as_slice-7.result.now (c.as_slice-7.ensures.value ∙ c.requires.classes) in
    c.in_ok-join_classes.ensures ∙ (λ i. with_classes (marks i) (fold join [] (classes i)))
