use Rattle.std.proofs.Common.{◌≡◌, ◌∷◌, ◌++◌, [], Some, None, ap, sym, ◌∙◌}
use Rattle.content_keys.specs.Places.{place_of}
use Rattle.content_keys.proofs.PlacedLemmas.{never_lost, placed_more, placed_within}
use Rattle.content_keys.proofs.placed_layer.listed.Goals as goal
use Rattle.content_keys.proofs.placed_layer.listed.Goals.{in-Some+in_ok-push, in_default}

pub loop-id-preserved : goal.loop-id-preserved
loop-id-preserved c =
    let l = c.args.layer.now in
    let t = c.args.table.now in
    let x = c.id-item.result in
    let ids = c.args.ids.now in
    let i = c.loop-id.id-index in
    let old = c.loop-id.placed.items in
    let new = c.match-place_of.placed.items in
    let places = c.args.places.now in
    let right = c.requires.right in
    elim c.match-place_of.branch [
      | in-Some+in_ok-push w ↦
          let e : place_of places x ≡ Some w.in-Some.place = sym c.place_of.ensures ∙ w.in-Some.is in
          let n : new ≡ old ++ record { id = x; place = w.in-Some.place } ∷ [] = ap (λ v. v.items) w.placed-is ∙ w.in_ok-push.ensures.items in (
            placed_more l t places right ids i x c.loop-id-test.true c.id-item.is w.in-Some.place old new e n c.loop-id.invariant.0,
            placed_within l t places right ids i x c.loop-id-test.true c.id-item.is w.in-Some.place old new e n c.loop-id.invariant.1,
          )
      | in_default w ↦
          let e : place_of places x ≡ None = sym c.place_of.ensures ∙ w.in_default.is in
          absurd (never_lost l t places right ids i x c.loop-id-test.true c.id-item.is c.requires.built c.requires.keeps c.requires.all c.requires.placed e)
    ]
