use Rattle.std.proofs.Common.{◌≡◌, ◌<◌, ℕ, List, Bool, All, Some, length, map, sym, ap, ◌∙◌, subst}
use Rattle.content_keys.specs.declared.placed_layer.PlacedLayer.{PlacedLayer}
use Rattle.unanimous_merge.specs.declared.entry.Entry.{Entry}
use Rattle.unanimous_merge.specs.Readings.{readings}
use Rattle.unanimous_merge.specs.Rows.{classes_at, each_has, entries_from, firsts_at, having}
use Rattle.unanimous_merge.specs.Unanimous.{unanimous_classes}
use Rattle.unanimous_merge.proofs.EntryLemmas.{marks_of}
use Rattle.unanimous_merge.proofs.ItemLemmas.{all_placed, entries_within, firsts_lead, firsts_within}
use Rattle.unanimous_merge.proofs.SharedLemmas.{Shares, all_classes_placed, has_class, marks_test, shares}
use Rattle.unanimous_merge.proofs.StandingLemmas.{has_mark}
use Rattle.unanimous_merge.proofs.merged.Merged.of.Goals as goal

pub first_entries-requires : goal.first_entries-requires
first_entries-requires c =
    let table = c.placed_rows.new.table in
    let rows = c.in_ok-rows.rows.items in
    let es : List Entry = entries_from 0 (map marks_of rows) in
    let is : c.as_slice-2.result.now ≡ es = c.as_slice-2.ensures.value ∙ c.in_ok-entries.ensures ∙ ap (λ rs. entries_from 0 (map marks_of rs)) c.as_slice.ensures.value in
    let P : List Entry → Type 0 = All (λ e. e.place < c.count-count.result) in
    let Q : ℕ → Type 0 = λ n. All (λ e. e.place < n) es in
    subst P (sym is) (subst Q (sym c.count-count.ensures) (entries_within table c.differ.ensures 0 rows (all_placed table c.differ.ensures c.args.snapshot.now rows c.in_ok-rows.ensures)))

pub standing_marks-requires : goal.standing_marks-requires
standing_marks-requires c =
    let table = c.placed_rows.new.table in
    let rows = c.in_ok-rows.rows.items in
    let P : List PlacedLayer → Type 0 = All (λ row. All (λ p. p.place < c.count-count.result) row.marks.items) in
    let Q : ℕ → Type 0 = λ n. All (λ (row : PlacedLayer). All (λ p. p.place < n) row.marks.items) rows in
    subst P (sym c.as_slice-3.ensures.value) (subst Q (sym c.count-count.ensures) (all_placed table c.differ.ensures c.args.snapshot.now rows c.in_ok-rows.ensures))

pub standing_classes-requires : goal.standing_classes-requires
standing_classes-requires c =
    let table = c.placed_rows.new.table in
    let rows = c.in_ok-rows.rows.items in
    let P : List PlacedLayer → Type 0 = All (λ row. All (λ place. place < c.count-count.result) row.classes.items) in
    let Q : ℕ → Type 0 = λ n. All (λ (row : PlacedLayer). All (λ place. place < n) row.classes.items) rows in
    subst P (sym c.as_slice-4.ensures.value) (subst Q (sym c.count-count.ensures) (all_classes_placed table c.differ.ensures c.args.snapshot.now rows c.in_ok-rows.ensures))

pub shared_classes-requires : goal.shared_classes-requires
shared_classes-requires c =
    let rows = c.in_ok-rows.rows.items in
    let sets : List (List Bool) = map (λ row. row.items) c.in_ok-sets.sets.items in
    let had : (place : ℕ) → having place sets ≡ map (has_class place) rows = λ place. c.in_ok-sets.ensures place ∙ ap (map (has_class place)) c.as_slice-4.ensures.value in
    let s : Shares c.placed_rows.new.table c.args.snapshot.now c.index-first.result.now c.deref.result.now sets =
    shares c.placed_rows.new.table c.differ.ensures c.args.snapshot.now rows c.in_ok-rows.ensures c.deref.result.now (ap Some c.deref.ensures ∙ c.in-Some.ensures) c.index-first.result.now c.index-first.ensures sets had in
    ap length c.as_slice-5.ensures.value ∙ s.long ∙ sym (ap length c.classes.ensures)

pub returns : goal.returns
returns c =
    let table = c.placed_rows.new.table in
    let rows = c.in_ok-rows.rows.items in
    let snapshot = c.args.snapshot.now in
    let marks : List (List Bool) = map (λ row. row.items) c.in_ok-marks.marks.items in
    let sets : List (List Bool) = map (λ row. row.items) c.in_ok-sets.sets.items in
    let has : (place : ℕ) → having place marks ≡ map (has_mark place) rows = λ place. c.in_ok-marks.ensures place ∙ ap (map (has_mark place)) c.as_slice-3.ensures.value in
    let had : (place : ℕ) → having place sets ≡ map (has_class place) rows = λ place. c.in_ok-sets.ensures place ∙ ap (map (has_class place)) c.as_slice-4.ensures.value in
    let s : Shares table snapshot c.index-first.result.now c.deref.result.now sets =
    shares table c.differ.ensures snapshot rows c.in_ok-rows.ensures c.deref.result.now (ap Some c.deref.ensures ∙ c.in-Some.ensures) c.index-first.result.now c.index-first.ensures sets had in
    let entries : c.in_ok-entries.entries.items ≡ entries_from 0 (map marks_of rows) = c.in_ok-entries.ensures ∙ ap (λ rs. entries_from 0 (map marks_of rs)) c.as_slice.ensures.value in
    record {
      distinct = c.differ.ensures;
      rows = c.in_ok-rows.ensures;
      layers = c.layers_keep.ensures;
      firsts = firsts_lead table c.differ.ensures snapshot rows c.in_ok-rows.ensures c.in_ok-entries.entries.items entries c.in_ok-firsts.firsts.items (c.in_ok-firsts.ensures ∙ ap firsts_at c.as_slice-2.ensures.value);
      within = firsts_within table c.differ.ensures snapshot rows c.in_ok-rows.ensures c.in_ok-entries.entries.items entries c.in_ok-firsts.firsts.items (c.in_ok-firsts.ensures ∙ ap firsts_at c.as_slice-2.ensures.value);
      marks = has;
      unanimous = λ place h. sym (marks_test table c.differ.ensures snapshot rows c.in_ok-rows.ensures marks has place h);
      classes = c.in_ok-classes.ensures ∙ (λ i. classes_at (each_has (map (λ row. row.items) (c.as_slice-6.ensures.value i))) (c.classes.ensures i) (c.as_slice-5.ensures.value i)) ∙ s.sets;
    }
