use Rattle.std.proofs.Common.{ℕ, Option, Some, None, sym, ap, ◌∙◌, ◌++◌, [], ◌∷◌, take}
use Rattle.std.specs.List.{filter_map}
use Rattle.std.specs.Ordering.{nat_cmp}
use Rattle.std.specs.BTreeMap.{get}
use Rattle.mark_base.specs.declared.ann_id.AnnId.{AnnId}
use Rattle.layer_model.specs.Classes.{rank}
use Rattle.curator_decisions.proofs.BuildLemmas.{append_nil, filter_map_more}
use Rattle.curator_decisions.proofs.naming.places_of_ids.Goals as goal
use Rattle.curator_decisions.proofs.naming.places_of_ids.Goals.{in-Some+in_ok-push, in_default}

pub loop-id-preserved : goal.loop-id-preserved
loop-id-preserved c =
    let place : AnnId → Option ℕ = λ id. get nat_cmp c.args.places.now (rank id) in
    let ids = c.args.ids.now in
    let i = c.loop-id.id-index in
    let id = c.id-item.result in
    elim c.match-place_of.branch [
      | in-Some+in_ok-push w ↦
          ap (λ v. v.items) w.out-is ∙ w.in_ok-push.ensures.items ∙ ap (λ xs. xs ++ w.in-Some.place ∷ []) c.loop-id.invariant ∙ sym (filter_map_more place ids i id c.loop-id-test.true c.id-item.is (Some w.in-Some.place) w.in-Some.ensures)
      | in_default w ↦ ap (λ v. v.items) w.out-is ∙ c.loop-id.invariant ∙ sym (filter_map_more place ids i id c.loop-id-test.true c.id-item.is None w.in_default.ensures ∙ append_nil (filter_map place (take i ids)))
    ]
