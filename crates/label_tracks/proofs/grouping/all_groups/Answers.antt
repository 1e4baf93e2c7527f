use Rattle.std.proofs.Common.{ℕ, [], ◌∷◌, ◌++◌, ◌∙◌, sym, ap, map, zero-add}
use Rattle.std.specs.List.{range_with_len}
use Rattle.std.proofs.lemmas.List.FromFn.{map-range_with_len_more}
use Rattle.label_tracks.specs.Levels.{group_at}
use Rattle.label_tracks.proofs.grouping.all_groups.Goals as goal

pub loop-place-preserved : goal.loop-place-preserved
loop-place-preserved c =
    let group : ℕ → ℕ = group_at c.args.types.now c.args.level in
    let i : ℕ = c.loop-place.place in
    c.in_ok-push.ensures.items ∙ ap (λ l. l ++ c.group_of.result ∷ []) c.loop-place.invariant
    ∙ ap (λ x. map group (range_with_len 0 i) ++ x ∷ []) c.group_of.ensures
    ∙ sym (map-range_with_len_more group 0 i i (zero-add i))
