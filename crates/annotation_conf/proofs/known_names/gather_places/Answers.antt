use Rattle.std.proofs.Common.{◌∙◌, ◌+◌, ℕ, sym, subst, arith, map, take}
use Rattle.std.specs.BTreeMap.{BTreeMap}
use Rattle.std.proofs.lemmas.Map.Text.{btree_map_updates_str}
use Rattle.annotation_conf.specs.NamePlaces.{seen_declared, FindsPlaces}
use Rattle.annotation_conf.proofs.FaultNames.{finds_again, finds_new}
use denote.Ref.{Bor}
use Rattle.std.proofs.Common.{List}
use Rattle.annotation_conf.proofs.known_names.gather_places.Goals as goal
use Rattle.annotation_conf.proofs.known_names.gather_places.Goals.{then-not-contains_key+in_ok-insert, else-not-contains_key}

pub loop-place-preserved : goal.loop-place-preserved
loop-place-preserved c =
    let P : BTreeMap (Bor (List ℕ)) ℕ → Type 0 = λ m. FindsPlaces (map seen_declared (take (c.loop-place.place + 1) c.args.lines.now)) m in
    elim c.if-not-contains_key.branch [
      | then-not-contains_key+in_ok-insert w ↦
          subst P (sym w.places-is)
          (finds_new c.args.lines.now c.loop-place.places w.insert.new.self c.loop-place.place _ (omega arith) c.loop-place.invariant
          (sym c.contains_key.ensures ∙ w.if-not-contains_key.true)
          (btree_map_updates_str _ c.loop-place.places w.insert.new.self _ w.in_ok-insert.ensures.updates))
      | else-not-contains_key w ↦
          subst P (sym w.places-is)
          (finds_again c.args.lines.now c.loop-place.places c.loop-place.place _ (omega arith) c.loop-place.invariant
          (sym c.contains_key.ensures ∙ w.if-not-contains_key.false))
    ]
