use Rattle.std.proofs.Common.{◌≡◌, ℕ, ◌+◌, ◌<◌, false, List, [], ◌∷◌, ◌++◌, length, ◌∙◌, sym, ap, subst, arith}
use Rattle.std.specs.List.{slice_get}
use Rattle.std.specs.Option.{option_map_or}
use Rattle.type_hierarchy.specs.declared.type_row.TypeRow.{TypeRow}
use Rattle.label_tracks.specs.Levels.{rolled}
use Rattle.label_tracks.proofs.LevelLemmas.{RolledSoFar, next_unused, next_used, no_types_left, rolled_found}
use Rattle.label_tracks.proofs.levels.rolled_types.Goals as goal
use Rattle.label_tracks.proofs.levels.rolled_types.Goals.{then-is_usable+in_ok-push, else-is_usable}

pub loop-place-preserved : goal.loop-place-preserved
loop-place-preserved c =
    let i : ℕ = c.loop-place.place in
    let level : ℕ = c.args.level in
    let within : i < length c.args.types.now = (let end = c.count-place-end.ensures.value in let test = c.loop-place-test.true in omega arith) in
    elim c.if-is_usable.branch [
      | then-is_usable+in_ok-push w ↦
          let items : c.if-is_usable.all.items ≡ c.loop-place.all.items ++ rolled c.args.types.now level i ∷ [] =
          ap (λ v. v.items) w.all-is ∙ w.in_ok-push.ensures.items ∙ ap (λ x. c.loop-place.all.items ++ x ∷ []) w.rolled.ensures in
          subst (λ (l : List ℕ). RolledSoFar c.args.types.now level (i + 1) l) (sym items)
          (next_used c.args.types.now level i c.loop-place.all.items within (sym (ap (λ rows. option_map_or (λ (row : TypeRow). row.usable) (slice_get rows i) false) c.rows-rows.ensures.value) ∙ sym c.is_usable.ensures ∙ w.if-is_usable.true) c.loop-place.invariant)
      | else-is_usable w ↦
          subst (λ (l : List ℕ). RolledSoFar c.args.types.now level (i + 1) l) (sym (ap (λ v. v.items) w.all-is))
          (next_unused c.args.types.now level i c.loop-place.all.items within (sym (ap (λ rows. option_map_or (λ (row : TypeRow). row.usable) (slice_get rows i) false) c.rows-rows.ensures.value) ∙ sym c.is_usable.ensures ∙ w.if-is_usable.false) c.loop-place.invariant)
    ]

all_rolled : goal.returns-clause-rolled
all_rolled c = no_types_left c.args.types.now c.args.level c.loop-place.place c.loop-place.all.items (let end = c.count-place-end.ensures.value in let test = c.loop-place-test.false in omega arith) c.loop-place.invariant

pub returns-clause-rolled : goal.returns-clause-rolled
returns-clause-rolled c = all_rolled c

pub returns-clause-few : goal.returns-clause-few
returns-clause-few c = rolled_found c.args.types.now c.args.level c.loop-place.all.items c.rows-rows.ensures.few_usable (all_rolled c)
