use Rattle.std.proofs.Common.{◌≡◌, ◌+◌, ◌≤◌, ℕ, List, All, IfOk, ◌<◌, length, length-append, map, subst, sym, arith}
use Rattle.std.proofs.lemmas.List.{length-map}
use Rattle.mark_base.specs.declared.ann_id.AnnId.{AnnId}
use Rattle.content_keys.specs.LayerContents.{class_contents_of, contents_of}
use Rattle.content_keys.specs.Nodes.{IsIn}
use Rattle.content_keys.specs.Tables.{AddsOnly, Starts, values}
use Rattle.content_keys.proofs.MoveLemmas.{length_values}
use Rattle.content_keys.proofs.OnlyLemmas.{all, few_added}
use Rattle.content_keys.proofs.StartLemmas.{values_start}
use Rattle.content_keys.proofs.content_table.ContentTable.place.Goals as goal

pub returns-clause-within : goal.returns-clause-within
returns-clause-within c =
    let P : ℕ → Type 0 = λ n. IfOk c.layer_placed_in-placed.result (λ placed. All (λ p. p.place < n) placed.marks.items) in
    subst P (sym (length_values c.layer_placed_in-placed.new.table)) c.layer_placed_in-placed.ensures.within

pub returns-clause-classes_within : goal.returns-clause-classes_within
returns-clause-classes_within c =
    let P : ℕ → Type 0 = λ n. IfOk c.layer_placed_in-placed.result (λ placed. All (λ place. place < n) placed.classes.items) in
    subst P (sym (length_values c.layer_placed_in-placed.new.table)) c.layer_placed_in-placed.ensures.classes_within

pub returns-clause-grown : goal.returns-clause-grown
returns-clause-grown c =
    let P : List ℕ → Type 0 = λ vs. Starts vs (values c.layer_placed_in-placed.new.table) in
    subst P c.self.view_is (values_start c.self.inside.table c.layer_placed_in-placed.new.table c.layer_placed_in-placed.ensures.grown)

pub returns-clause-only : goal.returns-clause-only
returns-clause-only c =
    let P : List ℕ → Type 0 = λ vs. AddsOnly (λ n. IsIn n (all c.args.layer.now)) vs (values c.layer_placed_in-placed.new.table) in
    subst P c.self.view_is c.layer_placed_in-placed.ensures.only

pub returns-clause-few : goal.returns-clause-few
returns-clause-few c =
    let l = c.args.layer.now in
    let P : List ℕ → Type 0 = λ vs. AddsOnly (λ n. IsIn n (all l)) vs (values c.layer_placed_in-placed.new.table) in
    let most : length (values c.layer_placed_in-placed.new.table) ≤ length c.args.self.now + length (all l) = few_added c.layer_placed_in-placed.new.table c.is_table.ensures c.args.self.now (all l) (subst P c.self.view_is c.layer_placed_in-placed.ensures.only) in
    let marks : length (map (λ (e : AnnId × ℕ). e.1) (contents_of l)) ≡ length (contents_of l) = length-map (contents_of l) (λ (e : AnnId × ℕ). e.1) in
    let both : length (all l) ≡ length (map (λ (e : AnnId × ℕ). e.1) (contents_of l)) + length (class_contents_of l) = length-append (map (λ (e : AnnId × ℕ). e.1) (contents_of l)) (class_contents_of l) in
    omega arith
